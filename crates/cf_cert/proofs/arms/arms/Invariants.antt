use Rattle.std.proofs.Common.{map, length}
use Rattle.cf_linear.specs.Views.{plain_layout, system_of}
use Rattle.cf_cert.proofs.ArmsLaws.{IsArming}
use Rattle.cf_cert.proofs.arms.arms.Given as goal

abbrev pub invariant-loop-system : goal.invariant-loop-system
invariant-loop-system l =
    IsArming (plain_layout l.layout) (map system_of l.fn.systems.items) (map (λ c. c.items) l.cases) l.left.items l.case l.arms.items

abbrev pub decreases-loop-system : goal.decreases-loop-system
decreases-loop-system l = length l.left.items
