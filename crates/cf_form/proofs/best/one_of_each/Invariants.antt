use Rattle.std.proofs.Common.{◌≡◌, ◌++◌, map, length}
use Rattle.cf_form.specs.Alternatives.{one_of_each}
use Rattle.cf_form.specs.GuardedView.{guarded_term}
use Rattle.cf_form.proofs.best.one_of_each.Given as goal

abbrev pub decreases-loop-y : goal.decreases-loop-y
decreases-loop-y l = length l.rest

abbrev pub invariant-loop-y : goal.invariant-loop-y
invariant-loop-y l =
    map guarded_term l.all.items ++ one_of_each l.first l.other (guarded_term l.x) (map guarded_term l.rest)
    ≡ one_of_each l.first l.other (guarded_term l.x) (map guarded_term l.fn.ys)
