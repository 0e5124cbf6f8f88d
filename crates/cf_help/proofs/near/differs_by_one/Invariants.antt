use Rattle.std.proofs.Common.{◌≡◌, length}
use Rattle.cf_help.specs.Near.{differs_by_one}
use Rattle.cf_help.proofs.near.differs_by_one.Given as goal

abbrev pub invariant-loop-a : goal.invariant-loop-a
invariant-loop-a l = differs_by_one l.left l.right ≡ differs_by_one l.fn.x l.fn.y

abbrev pub decreases-loop-a : goal.decreases-loop-a
decreases-loop-a l = length l.left
