use Rattle.std.proofs.Common.{◌≡◌, ◌++◌, map, length}
use Rattle.cf_form.specs.Alternatives.{over_two}
use Rattle.cf_form.specs.Atoms.{term_over_two}
use Rattle.cf_form.specs.GuardedView.{guarded_term}
use Rattle.cf_form.specs.WideView.{wide_term}
use Rattle.cf_form.proofs.guarded.over_two_terms.Given as goal

abbrev pub decreases-loop-x : goal.decreases-loop-x
decreases-loop-x l = length l.rest

abbrev pub invariant-loop-x : goal.invariant-loop-x
invariant-loop-x l =
    map guarded_term l.all.items ++ over_two (term_over_two (wide_term l.term)) (map guarded_term l.rest) (map guarded_term l.ys)
    ≡ over_two (term_over_two (wide_term l.term)) (map guarded_term l.fn.xs) (map guarded_term l.ys)
