use Rattle.std.proofs.Common.{arith}
use Rattle.cf_match.proofs.LoopSteps.{classes_at_end}
use Rattle.cf_match.proofs.collect.arm_classes.Goals as goal

pub returns : goal.returns
returns c = classes_at_end c.args.arms.now c.loop-arm.all.items c.loop-arm.arm-index (omega (arith, c.loop-arm-test.false)) c.loop-arm.invariant
