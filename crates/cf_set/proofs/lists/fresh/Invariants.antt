use Rattle.std.proofs.Common.{◌+◌, ◌-◌, length}
use Rattle.cf_tree.specs.Numbers.{count_of}
use Rattle.cf_set.proofs.FreshLemmas.{Picking}
use Rattle.cf_set.proofs.lists.fresh.Given as goal

abbrev pub invariant-loop-rest : goal.invariant-loop-rest
invariant-loop-rest l = Picking l.n l.avoid l.rest l.next l.out.items

abbrev pub decreases-loop-rest : goal.decreases-loop-rest
decreases-loop-rest l = (count_of l.n - length l.out.items) + length l.rest
