use Rattle.cf_linear.specs.Views.{plain_layout}
use Rattle.cf_choose.proofs.OnWay.{arms_more}
use Rattle.cf_choose.proofs.cases.arms.Goals as goal

pub loop-case-preserved : goal.loop-case-preserved
loop-case-preserved c =
    arms_more (plain_layout c.args.layout.now) c.args.cases.now c.loop-case.case-index c.case-item.result c.loop-case.arms.items c.push.new.self.items
    c.in_ok-case_arm.field-0 c.loop-case-test.true c.case-item.is
    c.in_ok-push.ensures.items c.in_ok-case_arm.ensures c.loop-case.invariant
