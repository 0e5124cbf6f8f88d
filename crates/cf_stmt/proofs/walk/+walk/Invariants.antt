use Rattle.std.proofs.Common.{◌≡◌, ◌+◌, ◌-◌, length, drop}
use Rattle.cf_tree.specs.CodeView.{code_trees, item_trees, arm_trees}
use Rattle.cf_stmt.specs.BlockView.{block_tree}
use Rattle.cf_stmt.specs.Made.{bound_parts, sum_block, tuple_block, arms_block, items_block}
use Rattle.cf_stmt.specs.Fitting.{plain}
use Rattle.cf_stmt.specs.SumView.{sum_left}
use Rattle.cf_stmt.proofs.walk.+walk.Given as goal

abbrev pub invariant-arms_block-loop-back : goal.invariant-arms_block-loop-back
invariant-arms_block-loop-back l =
    block_tree l.block.value ≡ arms_block plain l.n (arm_trees (drop (length l.arms - l.back) l.arms)) (block_tree l.fn.last.value)

abbrev pub invariant-items_block-loop-back : goal.invariant-items_block-loop-back
invariant-items_block-loop-back l =
    block_tree l.block.value ≡ items_block plain l.n (item_trees (drop (length l.items - l.back) l.items)) (block_tree l.fn.last.value)

abbrev pub invariant-tuple_block-loop-back : goal.invariant-tuple_block-loop-back
invariant-tuple_block-loop-back l =
    block_tree l.block.value ≡ tuple_block plain l.n (code_trees (drop (length l.codes - l.back) l.codes))

abbrev pub invariant-bound_parts-loop-back : goal.invariant-bound_parts-loop-back
invariant-bound_parts-loop-back l =
    block_tree l.block.value ≡
    bound_parts plain (l.n + (length l.codes - l.back)) (code_trees (drop (length l.codes - l.back) l.codes)) (block_tree l.fn.last.value)

abbrev pub invariant-sum_block-loop-i : goal.invariant-sum_block-loop-i
invariant-sum_block-loop-i l = sum_left l.sum (code_trees (drop l.i l.codes)) ≡ sum_block plain l.n (code_trees l.codes)
