use Rattle.std.proofs.Common.{◌≡◌, ◌+◌, ◌<◌, ◌^◌, drop}
use Rattle.cf_tree.specs.RelSize.{capped}
use Rattle.cf_tree.specs.CodeTree.{arms_size, codes_size, items_size}
use Rattle.cf_tree.specs.CodeView.{arm_trees, code_trees, item_trees}
use Rattle.cf_tree.proofs.+size_code.Given as goal

abbrev pub invariant-measure::code::codes_size-loop-code : goal.invariant-measure::code::codes_size-loop-code
invariant-measure::code::codes_size-loop-code l =
    (l.total < 2 ^ 64) × (capped (l.total + codes_size (code_trees (drop l.code-index l.codes))) ≡ capped (codes_size (code_trees l.codes)))

abbrev pub invariant-measure::code::items_size-loop-item : goal.invariant-measure::code::items_size-loop-item
invariant-measure::code::items_size-loop-item l =
    (l.total < 2 ^ 64) × (capped (l.total + items_size (item_trees (drop l.item-index l.items))) ≡ capped (items_size (item_trees l.items)))

abbrev pub invariant-measure::code::arms_size-loop-arm : goal.invariant-measure::code::arms_size-loop-arm
invariant-measure::code::arms_size-loop-arm l =
    (l.total < 2 ^ 64) × (capped (l.total + arms_size (arm_trees (drop l.arm-index l.arms))) ≡ capped (arms_size (arm_trees l.arms)))
