use Rattle.std.proofs.Common.{◌≡◌, length, map, max}
use Rattle.cf_form.specs.ToldView.{told_branch}
use Rattle.cf_answer.specs.Checking.{asked_view}
use Rattle.cf_answer.specs.Tells.{most_tuples}
use Rattle.cf_answer.proofs.told_check.told_tuples.Given as goal

abbrev pub decreases-loop-branch : goal.decreases-loop-branch
decreases-loop-branch l = length l.rest

abbrev pub invariant-loop-branch : goal.invariant-loop-branch
invariant-loop-branch l =
    max l.most (most_tuples (asked_view l.asked) (map told_branch l.rest)) ≡ most_tuples (asked_view l.asked) (map told_branch l.branches)
