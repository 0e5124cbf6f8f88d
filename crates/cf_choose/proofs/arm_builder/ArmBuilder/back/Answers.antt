use Rattle.cf_tree.specs.CodeView.{code_tree}
use Rattle.cf_choose.specs.ArmBuilders.{builder_of}
use Rattle.cf_choose.proofs.StepLemmas.{back_more, back_fit_more}
use Rattle.cf_choose.proofs.arm_builder.ArmBuilder.back.Goals as goal

pub loop-one-preserved : goal.loop-one-preserved
loop-one-preserved c = record {
  made = back_more (builder_of c.args.self.now) (builder_of c.loop-one.self) (builder_of c.let_named.new.self) c.args.back.now c.loop-one.one-index
      c.one-item.result (code_tree c.in_ok-code.code) c.loop-one-test.true
      c.one-item.is c.loop-one.invariant.made c.in_ok-code.ensures.code c.in_ok-let_named.ensures;
  fits = back_fit_more c.args.back.now c.loop-one.one-index c.one-item.result c.loop-one-test.true c.one-item.is c.loop-one.invariant.fits
      c.in_ok-code.ensures.fits;
}
