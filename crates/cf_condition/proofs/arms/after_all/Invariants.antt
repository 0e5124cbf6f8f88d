use Rattle.std.proofs.Common.{◌≡◌, drop}
use Rattle.cf_tree.specs.CodeView.{item_trees}
use Rattle.cf_condition.specs.Conditions.{items_in}
use Rattle.cf_condition.specs.FormView.{walk_tree}
use Rattle.cf_condition.proofs.arms.after_all.Given as goal

abbrev pub invariant-loop-item : goal.invariant-loop-item
invariant-loop-item l = items_in (walk_tree l.walk) (item_trees (drop l.item-index l.items)) ≡ items_in (walk_tree l.fn.start) (item_trees l.items)
