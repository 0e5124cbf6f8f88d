use Rattle.std.proofs.Common.{◌≡◌, ◌+◌, ◌<◌, ◌^◌, drop, map}
use Rattle.cf_tree.specs.RelSize.{capped}
use Rattle.cf_tree.specs.DefView.{program_size, raw_item_tree}
use Rattle.cf_tree.proofs.measure.whole.all_size.Given as goal

abbrev pub invariant-loop-item : goal.invariant-loop-item
invariant-loop-item l = (l.total < 2 ^ 64) ×
    (capped (l.total + program_size (map raw_item_tree (drop l.item-index l.items))) ≡ capped (program_size (map raw_item_tree l.items)))
