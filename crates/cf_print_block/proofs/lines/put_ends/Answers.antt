use Rattle.cf_print_block.proofs.LoopLaws.{next_end}
use Rattle.cf_print_block.proofs.lines.put_ends.Goals as goal

pub loop-i-preserved : goal.loop-i-preserved
loop-i-preserved c =
    next_end c.args.language c.args.depth c.args.count c.loop-i.i _ c.loop-i.out.items _ _ c.loop-i-test.true c.in_ok-inner.ensures
    c.in_ok-put_end.ensures c.loop-i.invariant
