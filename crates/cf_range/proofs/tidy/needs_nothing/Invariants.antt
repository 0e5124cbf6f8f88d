use Rattle.std.proofs.Common.{◌≡◌, drop}
use Rattle.cf_tree.specs.CodeView.{item_trees}
use Rattle.cf_range.specs.Tidied.{needs_nothing}
use Rattle.cf_range.proofs.tidy.needs_nothing.Given as goal

abbrev pub invariant-loop-item : goal.invariant-loop-item
invariant-loop-item l = needs_nothing (item_trees (drop l.item-index l.items)) ≡ needs_nothing (item_trees l.items)
