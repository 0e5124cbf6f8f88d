use Rattle.cf_print.proofs.PieceLaws.{next_time}
use Rattle.cf_print.proofs.pieces.put_repeated.Goals as goal

pub loop-i-preserved : goal.loop-i-preserved
loop-i-preserved c =
    next_time c.args.count c.loop-i.i c.args.piece.now c.loop-i.out.items _ _ c.loop-i-test.true c.in_ok-extend_from_slice.ensures.items c.loop-i.invariant
