use Rattle.std.proofs.Common.{◌≡◌, drop}
use Rattle.cf_tree.specs.CodeView.{item_trees}
use Rattle.cf_range.specs.Settled.{ranges_behind_all}
use Rattle.cf_range.proofs.ranges.ranges_behind_all.Given as goal

abbrev pub invariant-loop-item : goal.invariant-loop-item
invariant-loop-item l = ranges_behind_all l.all.items (item_trees (drop l.item-index l.items)) ≡ ranges_behind_all l.ranges (item_trees l.items)
