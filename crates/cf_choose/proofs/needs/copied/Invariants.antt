use Rattle.std.proofs.Common.{◌≡◌, map, take}
use Rattle.cf_tree.specs.CodeView.{item_tree}
use Rattle.cf_choose.proofs.needs.copied.Given as goal

abbrev pub invariant-loop-item : goal.invariant-loop-item
invariant-loop-item l = map item_tree l.all.items ≡ map item_tree (take l.item-index l.items)
