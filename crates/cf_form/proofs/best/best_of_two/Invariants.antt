use Rattle.std.proofs.Common.{◌≡◌, ◌++◌, map, length}
use Rattle.cf_form.specs.Alternatives.{best_of_two}
use Rattle.cf_form.specs.GuardedView.{guarded_term}
use Rattle.cf_form.proofs.best.best_of_two.Given as goal

abbrev pub decreases-loop-x : goal.decreases-loop-x
decreases-loop-x l = length l.rest

abbrev pub invariant-loop-x : goal.invariant-loop-x
invariant-loop-x l =
    map guarded_term l.all.items ++ best_of_two l.first l.other (map guarded_term l.rest) (map guarded_term l.ys)
    ≡ best_of_two l.first l.other (map guarded_term l.fn.xs) (map guarded_term l.ys)
