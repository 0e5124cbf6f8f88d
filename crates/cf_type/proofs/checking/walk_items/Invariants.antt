use Rattle.std.proofs.Common.{◌≡◌, [], length, map, take, drop}
use Rattle.cf_tree.specs.DefView.{raw_def_tree, raw_item_tree}
use Rattle.cf_program.specs.Checked.{functions_of, walk_items}
use Rattle.cf_type.specs.Walked.{functions_in}
use Rattle.cf_type.specs.WalkedView.{walked_of}
use Rattle.cf_type.proofs.checking.walk_items.Given as goal

abbrev pub invariant-loop-item : goal.invariant-loop-item
invariant-loop-item l =
    (length l.walked.defs.items ≡ length (functions_in (take l.item-index l.items)))
    × (walk_items l.setting.edition l.setting.how (functions_of (map raw_item_tree l.items)) (walked_of l.walked).constants
    (map raw_def_tree (functions_in (take l.item-index l.items))) (walked_of l.walked).defs l.walked.next (map raw_item_tree (drop l.item-index l.items))
    ≡ walk_items l.setting.edition l.setting.how (functions_of (map raw_item_tree l.items)) [] [] [] 1 (map raw_item_tree l.items))
