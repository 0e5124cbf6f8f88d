use Rattle.cf_tree.specs.CodeTree.{no_codes}
use Rattle.cf_stmt.specs.BlockView.{block_tree}
use Rattle.cf_stmt.specs.SumView.{sum_left}
use Rattle.cf_stmt.proofs.SumSteps.{done_turn}
use Rattle.cf_stmt.proofs.sums.sum_done.Goals as goal

pub loop-first-preserved : goal.loop-first-preserved
loop-first-preserved c = done_turn (λ b. block_tree b.value) c.loop-first.bound.items c.pop.new.self.items c.in-Some.first
    (block_tree c.loop-first.block.value) (block_tree c.in_ok-block-2.block.value) (sum_left c.args.sum no_codes) c.in-Some.ensures.items
    c.in_ok-block-2.ensures c.loop-first.invariant
