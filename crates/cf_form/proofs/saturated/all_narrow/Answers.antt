use Rattle.std.proofs.Common.{arith}
use Rattle.cf_form.proofs.SaturatedLaws.{narrow_next, narrow_end}
use Rattle.cf_form.proofs.saturated.all_narrow.Goals as goal

pub loop-index-preserved : goal.loop-index-preserved
loop-index-preserved c =
    narrow_next c.args.defs.now c.loop-index.index c.index-defs-index.result (omega (arith, c.loop-index-test.true)) c.loop-index.invariant
    c.in_ok-narrow.ensures

pub returns : goal.returns
returns c = narrow_end c.args.defs.now c.loop-index.index (omega (arith, c.loop-index-test.false)) c.loop-index.invariant
