use Rattle.std.proofs.Common.{arith}
use Rattle.cf_linear.specs.Views.{plain_layout}
use Rattle.cf_choose.specs.ArmBuilders.{builder_of}
use Rattle.cf_choose.proofs.MadeArms.{regions_more}
use Rattle.cf_choose.proofs.arm_builder.ArmBuilder.regions.Goals as goal

pub loop-mask-preserved : goal.loop-mask-preserved
loop-mask-preserved c =
    regions_more (plain_layout c.args.layout.now) (builder_of c.args.self.now) (builder_of c.loop-mask.self) (builder_of c.region.new.self) c.loop-mask.mask
    (omega (arith, c.loop-mask.auto.mask)) c.loop-mask.invariant
    c.in_ok-region.ensures
