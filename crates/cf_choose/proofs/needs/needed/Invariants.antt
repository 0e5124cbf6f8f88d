use Rattle.std.proofs.Common.{◌≡◌, ◌≤◌, map, take}
use Rattle.cf_tree.specs.CodeTree.{items_of}
use Rattle.cf_tree.specs.CodeView.{item_tree}
use Rattle.cf_choose.specs.Precondition.{to_last_need}
use Rattle.cf_choose.proofs.needs.needed.Given as goal

abbrev pub invariant-loop-i : goal.invariant-loop-i
invariant-loop-i l = (l.count ≤ l.i) × (items_of (map item_tree (take l.count l.items)) ≡ to_last_need (items_of (map item_tree (take l.i l.items))))
