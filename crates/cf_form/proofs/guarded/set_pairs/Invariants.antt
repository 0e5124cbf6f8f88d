use Rattle.std.proofs.Common.{◌≡◌, ◌++◌, map, length}
use Rattle.cf_form.specs.Atoms.{set_over_two}
use Rattle.cf_form.specs.GuardedView.{guarded_set, pair_of}
use Rattle.cf_form.specs.WideView.{wide_set_of}
use Rattle.cf_form.proofs.guarded.set_pairs.Given as goal

abbrev pub decreases-loop-y : goal.decreases-loop-y
decreases-loop-y l = length l.rest

abbrev pub invariant-loop-y : goal.invariant-loop-y
invariant-loop-y l =
    map guarded_set l.all.items ++ map (pair_of (set_over_two (wide_set_of l.set)) (guarded_set l.x)) (map guarded_set l.rest) ≡ map (pair_of (set_over_two (wide_set_of l.set)) (guarded_set l.x)) (map guarded_set l.fn.ys)
