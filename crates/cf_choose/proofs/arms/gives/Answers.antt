use Rattle.std.proofs.Common.{◌+◌, refl}
use Rattle.cf_linear.specs.Views.{plain_layout}
use Rattle.cf_choose.specs.ArmBuilders.{output_code}
use Rattle.cf_choose.proofs.LevelLemmas.{gives_more}
use Rattle.cf_choose.proofs.arms.gives.Goals as goal

pub loop-i-preserved : goal.loop-i-preserved
loop-i-preserved c =
    gives_more (output_code (plain_layout c.args.layout.now) c.args.names.now c.args.sources.regions c.args.sources.fresh) c.loop-i.codes.items
    c.push.new.self.items c.in_ok-code.code c.args.layout.now.scope c.loop-i.i
    (c.args.layout.now.scope + c.loop-i.i) c.in_ok-push.ensures.items c.in_ok-code.ensures refl c.loop-i.invariant
