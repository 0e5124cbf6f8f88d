use Rattle.std.proofs.Common.{◌≡◌, ◌++◌, map, length, reverse}
use Rattle.cf_form.specs.Alternatives.{over_one}
use Rattle.cf_form.specs.Atoms.{term_over_one}
use Rattle.cf_form.specs.GuardedView.{guarded_term}
use Rattle.cf_form.specs.WideView.{wide_term}
use Rattle.cf_form.proofs.guarded.over_terms.Given as goal

abbrev pub decreases-loop-part : goal.decreases-loop-part
decreases-loop-part l = length l.left.items

abbrev pub invariant-loop-part : goal.invariant-loop-part
invariant-loop-part l =
    map guarded_term l.all.items ++ over_one (term_over_one (wide_term l.term)) (map guarded_term (reverse l.left.items)) ≡ over_one (term_over_one (wide_term l.term)) (map guarded_term l.fn.parts.items)
