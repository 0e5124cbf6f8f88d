use Rattle.std.proofs.Common.{◌≡◌, ◌++◌, map, length}
use Rattle.cf_form.specs.Alternatives.{over_two}
use Rattle.cf_form.specs.Atoms.{set_over_two}
use Rattle.cf_form.specs.GuardedView.{guarded_set}
use Rattle.cf_form.specs.WideView.{wide_set_of}
use Rattle.cf_form.proofs.guarded.over_two_sets.Given as goal

abbrev pub decreases-loop-x : goal.decreases-loop-x
decreases-loop-x l = length l.rest

abbrev pub invariant-loop-x : goal.invariant-loop-x
invariant-loop-x l =
    map guarded_set l.all.items ++ over_two (set_over_two (wide_set_of l.set)) (map guarded_set l.rest) (map guarded_set l.ys)
    ≡ over_two (set_over_two (wide_set_of l.set)) (map guarded_set l.fn.xs) (map guarded_set l.ys)
