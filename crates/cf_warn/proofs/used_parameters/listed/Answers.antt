use Rattle.cf_linear.specs.Views.{plain_layout}
use Rattle.cf_warn.specs.Writing.{is_parameter}
use Rattle.cf_warn.proofs.ParameterLaws.{levels_more}
use Rattle.cf_warn.proofs.used_parameters.listed.Goals as goal

pub loop-x-preserved : goal.loop-x-preserved
loop-x-preserved c =
    levels_more (is_parameter (plain_layout c.args.layout.now)) c.args.layout.now.scope c.loop-x.x c.is_parameter.result c.loop-x.params.items
    c.push_if.new.items.items _ c.loop-x-test.true c.is_parameter.ensures c.in_ok-push_if.ensures c.loop-x.invariant
