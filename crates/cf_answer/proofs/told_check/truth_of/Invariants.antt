use Rattle.std.proofs.Common.{◌≡◌, length, map}
use Rattle.cf_form.specs.Branches.{values_in}
use Rattle.cf_form.specs.ToldView.{truth_at}
use Rattle.cf_answer.proofs.told_check.truth_of.Given as goal

abbrev pub decreases-loop-truth : goal.decreases-loop-truth
decreases-loop-truth l = length l.rest

abbrev pub invariant-loop-truth : goal.invariant-loop-truth
invariant-loop-truth l =
    values_in (map truth_at l.rest) l.level ≡ values_in (map truth_at l.truths) l.level
