use Rattle.std.proofs.Common.{◌≡◌, drop}
use Rattle.cf_tree.specs.CodeView.{code_trees, item_trees, arm_trees}
use Rattle.cf_print_shape.specs.Sets.{use_sets, items_use_sets, arms_use_sets}
use Rattle.cf_print_shape.proofs.sets.+sets.Given as goal

abbrev pub invariant-use_sets-loop-code : goal.invariant-use_sets-loop-code
invariant-use_sets-loop-code l = use_sets (code_trees (drop l.code-index l.codes)) ≡ use_sets (code_trees l.codes)

abbrev pub invariant-items_use_sets-loop-item : goal.invariant-items_use_sets-loop-item
invariant-items_use_sets-loop-item l = items_use_sets (item_trees (drop l.item-index l.items)) ≡ items_use_sets (item_trees l.items)

abbrev pub invariant-arms_use_sets-loop-arm : goal.invariant-arms_use_sets-loop-arm
invariant-arms_use_sets-loop-arm l = arms_use_sets (arm_trees (drop l.arm-index l.arms)) ≡ arms_use_sets (arm_trees l.arms)
