use Rattle.std.proofs.Common.{◌≡◌, ◌++◌, ℕ, length, map}
use Rattle.cf_tree.specs.Values.{Value}
use Rattle.cf_eval.specs.Seen.{plains}
use Rattle.cf_form.specs.Branches.{values_in}
use Rattle.cf_form.specs.ToldView.{truth_at}
use Rattle.cf_warn.specs.Questions.{base_at}
use Rattle.cf_answer.specs.ToldChecks.{at_rest, beside, truth_or}
use Rattle.cf_answer.proofs.told_check.named_sample.Given as goal

abbrev pub decreases-loop-level : goal.decreases-loop-level
decreases-loop-level l = length l.rest

abbrev pub invariant-loop-level : goal.invariant-loop-level
invariant-loop-level l =
    let value : ℕ → Value = λ x. truth_or (values_in (map truth_at l.truths) x) (beside l.params (plains l.sample) x (at_rest (base_at l.asked.scope.now x))) in
    plains l.values.items ++ map value l.rest ≡ map value l.asked.levels.now
