use Rattle.std.proofs.Common.{◌≡◌, map, length, reverse}
use Rattle.cf_form.specs.Alternatives.{best_behind}
use Rattle.cf_form.specs.GuardedView.{guarded_term, guarded_terms}
use Rattle.cf_form.proofs.best.best_behind.Given as goal

abbrev pub decreases-loop-next : goal.decreases-loop-next
decreases-loop-next l = length l.left.items

abbrev pub invariant-loop-next : goal.invariant-loop-next
invariant-loop-next l =
    best_behind l.first l.other (map guarded_term l.best.items) (map guarded_terms (reverse l.left.items))
    ≡ best_behind l.first l.other (map guarded_term l.fn.part.items) (map guarded_terms (reverse l.fn.others.items))
