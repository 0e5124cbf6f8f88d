use Rattle.std.proofs.Common.{◌≡◌, map, take}
use Rattle.cf_form.specs.WideView.{wide_term}
use Rattle.cf_form.proofs.+copy_wide.Given as goal

abbrev pub invariant-copy::copied_terms-loop-term : goal.invariant-copy::copied_terms-loop-term
invariant-copy::copied_terms-loop-term l = map wide_term l.all.items ≡ map wide_term (take l.term-index l.terms)
