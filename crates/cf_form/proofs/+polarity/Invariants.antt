use Rattle.std.proofs.Common.{◌≡◌, map, take}
use Rattle.cf_form.specs.Branches.{values_in}
use Rattle.cf_form.specs.GuardedView.{guarded_terms}
use Rattle.cf_form.specs.Polarity.{all_alternatives}
use Rattle.cf_form.specs.ToldView.{truth_at}
use Rattle.cf_form.specs.WideView.{wide_terms}
use Rattle.cf_form.proofs.+polarity.Given as goal

abbrev pub invariant-alternatives::all_alternatives-loop-term : goal.invariant-alternatives::all_alternatives-loop-term
invariant-alternatives::all_alternatives-loop-term l =
    map guarded_terms l.all.items ≡ all_alternatives (values_in (map truth_at l.truths)) (wide_terms (take l.term-index l.terms))
