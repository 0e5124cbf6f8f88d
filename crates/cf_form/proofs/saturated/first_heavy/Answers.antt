use Rattle.std.proofs.Common.{arith}
use Rattle.cf_form.proofs.SaturatedLaws.{heavy_at}
use Rattle.cf_form.proofs.saturated.first_heavy.Goals as goal

pub returns-in-Ok-clause-heavy : goal.returns-in-Ok-clause-heavy
returns-in-Ok-clause-heavy c =
    heavy_at c.args.defs.now c.loop-index.index c.index-defs-index.result (omega (arith, c.loop-index-test.true)) c.in-Ok.ensures
