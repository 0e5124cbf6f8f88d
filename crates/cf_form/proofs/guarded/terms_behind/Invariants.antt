use Rattle.std.proofs.Common.{◌≡◌, ◌++◌, map, length, reverse}
use Rattle.cf_tree.specs.RelView.{rel_tree}
use Rattle.cf_form.specs.Alternatives.{behind}
use Rattle.cf_form.specs.GuardedView.{guarded_term}
use Rattle.cf_form.proofs.guarded.terms_behind.Given as goal

abbrev pub decreases-loop-part : goal.decreases-loop-part
decreases-loop-part l = length l.left.items

abbrev pub invariant-loop-part : goal.invariant-loop-part
invariant-loop-part l =
    map guarded_term l.all.items ++ behind (rel_tree l.guard) (map guarded_term (reverse l.left.items)) ≡ behind (rel_tree l.guard) (map guarded_term l.fn.parts.items)
