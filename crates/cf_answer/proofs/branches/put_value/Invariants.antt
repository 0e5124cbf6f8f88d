use Rattle.std.proofs.Common.{◌≡◌, length, map}
use Rattle.cf_form.specs.ToldView.{truth_at}
use Rattle.cf_answer.specs.Branches.{value_behind}
use Rattle.cf_answer.proofs.branches.put_value.Given as goal

abbrev pub invariant-truths : goal.invariant-truths
invariant-truths l =
    (l.name.items ≡ l.fn.name.items) × (value_behind l.level (map truth_at l.branch) ≡ value_behind l.level (map truth_at l.rest))

abbrev pub decreases-truths : goal.decreases-truths
decreases-truths l = length l.rest
