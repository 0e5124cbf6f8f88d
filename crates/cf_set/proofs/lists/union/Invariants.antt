use Rattle.std.proofs.Common.{◌-◌, ◌+◌, length}
use Rattle.cf_set.proofs.Merging.{Merging}
use Rattle.cf_set.proofs.lists.union.Given as goal

abbrev pub invariant-loop-i : goal.invariant-loop-i
invariant-loop-i l = Merging l.a l.b l.i l.j l.out.items

abbrev pub decreases-loop-i : goal.decreases-loop-i
decreases-loop-i l = (length l.a - l.i) + (length l.b - l.j)
