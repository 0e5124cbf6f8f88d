use Rattle.std.proofs.Common.{◌≡◌, ◌++◌, map, length}
use Rattle.cf_form.specs.Atoms.{term_over_two}
use Rattle.cf_form.specs.GuardedView.{guarded_term, pair_of}
use Rattle.cf_form.specs.WideView.{wide_term}
use Rattle.cf_form.proofs.guarded.term_pairs.Given as goal

abbrev pub decreases-loop-y : goal.decreases-loop-y
decreases-loop-y l = length l.rest

abbrev pub invariant-loop-y : goal.invariant-loop-y
invariant-loop-y l =
    map guarded_term l.all.items ++ map (pair_of (term_over_two (wide_term l.term)) (guarded_term l.x)) (map guarded_term l.rest) ≡ map (pair_of (term_over_two (wide_term l.term)) (guarded_term l.x)) (map guarded_term l.fn.ys)
