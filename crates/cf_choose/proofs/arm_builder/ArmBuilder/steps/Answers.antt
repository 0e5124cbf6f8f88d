use Rattle.cf_choose.specs.ArmBuilders.{builder_of}
use Rattle.cf_choose.proofs.StepLemmas.{steps_more, fits_more}
use Rattle.cf_choose.proofs.arm_builder.ArmBuilder.steps.Goals as goal

pub loop-step-preserved : goal.loop-step-preserved
loop-step-preserved c = record {
  made = steps_more (builder_of c.args.self.now) (builder_of c.loop-step.self) (builder_of c.step.new.self) c.args.steps.now c.loop-step.step-index
      c.step-item.result c.loop-step-test.true c.step-item.is
      c.loop-step.invariant.made c.in_ok-step.ensures.made;
  fits = fits_more c.args.steps.now c.loop-step.step-index c.step-item.result c.loop-step-test.true c.step-item.is c.loop-step.invariant.fits
      c.in_ok-step.ensures.fits;
}
