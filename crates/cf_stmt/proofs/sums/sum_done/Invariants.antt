use Rattle.std.proofs.Common.{◌≡◌, map, length}
use Rattle.cf_tree.specs.CodeTree.{no_codes}
use Rattle.cf_stmt.specs.BlockView.{block_tree}
use Rattle.cf_stmt.specs.SumView.{parts_then, sum_left}
use Rattle.cf_stmt.proofs.sums.sum_done.Given as goal

abbrev pub invariant-loop-first : goal.invariant-loop-first
invariant-loop-first l = parts_then (map (λ b. block_tree b.value) l.bound.items) (block_tree l.block.value) ≡ sum_left l.fn.sum no_codes

abbrev pub decreases-loop-first : goal.decreases-loop-first
decreases-loop-first l = length l.bound.items
