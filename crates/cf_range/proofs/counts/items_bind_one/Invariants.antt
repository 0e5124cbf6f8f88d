use Rattle.std.proofs.Common.{◌≡◌, drop}
use Rattle.cf_tree.specs.CodeView.{item_trees}
use Rattle.cf_range.specs.Settled.{items_bind_one}
use Rattle.cf_range.proofs.counts.items_bind_one.Given as goal

abbrev pub invariant-loop-item : goal.invariant-loop-item
invariant-loop-item l = items_bind_one (item_trees (drop l.item-index l.items)) ≡ items_bind_one (item_trees l.items)
