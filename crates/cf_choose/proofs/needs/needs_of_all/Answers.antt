use Rattle.std.proofs.Common.{arith}
use Rattle.cf_choose.proofs.NeedLaws.{needs_each}
use Rattle.cf_choose.proofs.needs.needs_of_all.Goals as goal

pub returns : goal.returns
returns c = needs_each c.loop-arm.all.items c.args.arms.now c.loop-arm.arm-index (omega (arith, c.loop-arm-test.false)) c.loop-arm.invariant
