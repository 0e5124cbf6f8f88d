use Rattle.std.proofs.Common.{◌≡◌, length, map}
use Rattle.cf_form.specs.ToldView.{truth_at}
use Rattle.cf_answer.specs.Checking.{asked_view}
use Rattle.cf_answer.specs.Tells.{are_truths}
use Rattle.cf_answer.proofs.told_check.are_truths.Given as goal

abbrev pub decreases-loop-truth : goal.decreases-loop-truth
decreases-loop-truth l = length l.rest

abbrev pub invariant-loop-truth : goal.invariant-loop-truth
invariant-loop-truth l =
    are_truths (asked_view l.asked) (map truth_at l.rest) ≡ are_truths (asked_view l.asked) (map truth_at l.truths)
