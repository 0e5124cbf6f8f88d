use Rattle.std.proofs.Common.{◌≡◌, length}
use Rattle.cf_tree.specs.Bases.{same_bases}
use Rattle.cf_tree.proofs.base.same_bases.Given as goal

abbrev pub invariant-loop-x : goal.invariant-loop-x
invariant-loop-x l = same_bases l.left l.right ≡ same_bases l.fn.a l.fn.b

abbrev pub decreases-loop-x : goal.decreases-loop-x
decreases-loop-x l = length l.left
