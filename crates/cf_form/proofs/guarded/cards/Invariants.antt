use Rattle.std.proofs.Common.{◌≡◌, ◌++◌, map, length, reverse}
use Rattle.cf_tree.specs.RelTree.{term_card}
use Rattle.cf_form.specs.Alternatives.{over_one}
use Rattle.cf_form.specs.GuardedView.{guarded_set, guarded_term}
use Rattle.cf_form.proofs.guarded.cards.Given as goal

abbrev pub decreases-loop-part : goal.decreases-loop-part
decreases-loop-part l = length l.left.items

abbrev pub invariant-loop-part : goal.invariant-loop-part
invariant-loop-part l =
    map guarded_term l.all.items ++ over_one term_card (map guarded_set (reverse l.left.items)) ≡ over_one term_card (map guarded_set l.fn.parts.items)
