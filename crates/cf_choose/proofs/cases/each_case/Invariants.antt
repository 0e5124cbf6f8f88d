use Rattle.std.proofs.Common.{map, length}
use Rattle.cf_linear.specs.Views.{system_of}
use Rattle.cf_choose.proofs.OnWay.{IsOnWay}
use Rattle.cf_choose.proofs.cases.each_case.Given as goal

abbrev pub invariant-loop-system : goal.invariant-loop-system
invariant-loop-system l = IsOnWay (map system_of l.fn.systems.items) l.left.items l.cases.items

abbrev pub decreases-loop-system : goal.decreases-loop-system
decreases-loop-system l = length l.left.items
