use Rattle.std.proofs.Common.{◌≡◌, map, length}
use Rattle.cf_form.specs.Branches.{values_in}
use Rattle.cf_form.specs.ToldView.{truth_at}
use Rattle.cf_form.proofs.polarity.value_in.Given as goal

abbrev pub decreases-loop-first : goal.decreases-loop-first
decreases-loop-first l = length l.rest

abbrev pub invariant-loop-first : goal.invariant-loop-first
invariant-loop-first l = values_in (map truth_at l.rest) l.level ≡ values_in (map truth_at l.fn.truths) l.level
