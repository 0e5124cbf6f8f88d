use Rattle.std.proofs.Common.{◌≡◌, drop}
use Rattle.cf_tree.specs.CodeView.{code_trees, item_trees, arm_trees}
use Rattle.cf_smt.specs.Reads.{some_read, items_read, arms_read}
use Rattle.cf_smt.proofs.reads.+reads.Given as goal

abbrev pub invariant-some_read-loop-code : goal.invariant-some_read-loop-code
invariant-some_read-loop-code l = some_read l.level (code_trees (drop l.code-index l.codes)) ≡ some_read l.level (code_trees l.codes)

abbrev pub invariant-items_read-loop-item : goal.invariant-items_read-loop-item
invariant-items_read-loop-item l = items_read l.level (item_trees (drop l.item-index l.items)) ≡ items_read l.level (item_trees l.items)

abbrev pub invariant-arms_read-loop-arm : goal.invariant-arms_read-loop-arm
invariant-arms_read-loop-arm l = arms_read l.level (arm_trees (drop l.arm-index l.arms)) ≡ arms_read l.level (arm_trees l.arms)
