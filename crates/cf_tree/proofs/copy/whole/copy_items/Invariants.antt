use Rattle.std.proofs.Common.{◌≡◌, map, take}
use Rattle.cf_tree.specs.DefView.{raw_item_tree}
use Rattle.cf_tree.proofs.copy.whole.copy_items.Given as goal

abbrev pub invariant-loop-item : goal.invariant-loop-item
invariant-loop-item l = map raw_item_tree l.all.items ≡ map raw_item_tree (take l.item-index l.items)
