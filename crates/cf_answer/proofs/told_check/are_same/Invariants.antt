use Rattle.std.proofs.Common.{◌≡◌, length}
use Rattle.cf_eval.specs.Seen.{plains}
use Rattle.cf_answer.specs.Tells.{same_values}
use Rattle.cf_answer.proofs.told_check.are_same.Given as goal

abbrev pub decreases-loop-value : goal.decreases-loop-value
decreases-loop-value l = length l.left

abbrev pub invariant-loop-value : goal.invariant-loop-value
invariant-loop-value l =
    same_values (plains l.left) (plains l.right) ≡ same_values (plains l.first) (plains l.second)
