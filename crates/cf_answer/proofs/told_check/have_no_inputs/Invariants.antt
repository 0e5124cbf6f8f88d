use Rattle.std.proofs.Common.{length, map}
use Rattle.std.specs.Prelude.{All}
use Rattle.cf_form.specs.ToldView.{told_branch}
use Rattle.cf_answer.specs.Checking.{asked_view}
use Rattle.cf_answer.specs.Tells.{HasNoInputs}
use Rattle.cf_answer.proofs.told_check.have_no_inputs.Given as goal

abbrev pub decreases-loop-branch : goal.decreases-loop-branch
decreases-loop-branch l = length l.rest

abbrev pub invariant-loop-branch : goal.invariant-loop-branch
invariant-loop-branch l =
    All (HasNoInputs (asked_view l.asked)) (map told_branch l.rest) → All (HasNoInputs (asked_view l.asked)) (map told_branch l.branches)
