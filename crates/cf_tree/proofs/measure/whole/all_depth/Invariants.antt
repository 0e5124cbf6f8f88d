use Rattle.std.proofs.Common.{◌≡◌, ◌<◌, ◌^◌, max, drop, map}
use Rattle.cf_tree.specs.RelSize.{capped}
use Rattle.cf_tree.specs.DefView.{program_depth, raw_item_tree}
use Rattle.cf_tree.proofs.measure.whole.all_depth.Given as goal

abbrev pub invariant-loop-item : goal.invariant-loop-item
invariant-loop-item l = (l.deepest < 2 ^ 64) ×
    (capped (max l.deepest (program_depth (map raw_item_tree (drop l.item-index l.items)))) ≡ capped (program_depth (map raw_item_tree l.items)))
