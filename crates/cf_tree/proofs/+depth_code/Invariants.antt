use Rattle.std.proofs.Common.{◌≡◌, ◌<◌, ◌^◌, max, drop}
use Rattle.cf_tree.specs.RelSize.{capped}
use Rattle.cf_tree.specs.CodeTree.{arms_depth, codes_depth, items_depth}
use Rattle.cf_tree.specs.CodeView.{arm_trees, code_trees, item_trees}
use Rattle.cf_tree.proofs.+depth_code.Given as goal

abbrev pub invariant-measure::code::codes_depth-loop-code : goal.invariant-measure::code::codes_depth-loop-code
invariant-measure::code::codes_depth-loop-code l =
    (l.deepest < 2 ^ 64) × (capped (max l.deepest (codes_depth (code_trees (drop l.code-index l.codes)))) ≡ capped (codes_depth (code_trees l.codes)))

abbrev pub invariant-measure::code::items_depth-loop-item : goal.invariant-measure::code::items_depth-loop-item
invariant-measure::code::items_depth-loop-item l =
    (l.deepest < 2 ^ 64) × (capped (max l.deepest (items_depth (item_trees (drop l.item-index l.items)))) ≡ capped (items_depth (item_trees l.items)))

abbrev pub invariant-measure::code::arms_depth-loop-arm : goal.invariant-measure::code::arms_depth-loop-arm
invariant-measure::code::arms_depth-loop-arm l =
    (l.deepest < 2 ^ 64) × (capped (max l.deepest (arms_depth (arm_trees (drop l.arm-index l.arms)))) ≡ capped (arms_depth (arm_trees l.arms)))
