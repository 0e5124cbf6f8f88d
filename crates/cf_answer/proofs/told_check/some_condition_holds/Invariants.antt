use Rattle.std.proofs.Common.{◌≡◌, length, map}
use Rattle.cf_form.specs.ToldView.{told_branch}
use Rattle.cf_answer.specs.ToldChecks.{some_condition_holds}
use Rattle.cf_answer.proofs.told_check.some_condition_holds.Given as goal

abbrev pub decreases-loop-branch : goal.decreases-loop-branch
decreases-loop-branch l = length l.rest

abbrev pub invariant-loop-branch : goal.invariant-loop-branch
invariant-loop-branch l =
    some_condition_holds l.level (map told_branch l.rest) ≡ some_condition_holds l.level (map told_branch l.branches)
