use Rattle.std.proofs.Common.{arith}
use Rattle.cf_form.proofs.ChooseWalk.{expr_found, arm_found}
use Rattle.cf_form.proofs.chooses.+collect.Goals as goal

pub collect_all-loop-expr-preserved : goal.collect_all-loop-expr-preserved
collect_all-loop-expr-preserved t c =
    expr_found c.args.before.now c.args.exprs.now c.loop-expr.expr-index c.expr-item.result _ _ _ (omega (arith, c.loop-expr-test.true)) c.expr-item.is
    c.loop-expr.invariant c.in_ok-collect.ensures

pub collect_arms-loop-arm-preserved : goal.collect_arms-loop-arm-preserved
collect_arms-loop-arm-preserved t c =
    arm_found c.args.before.now c.args.arms.now c.loop-arm.arm-index c.arm-item.result _ _ _ (omega (arith, c.loop-arm-test.true)) c.arm-item.is
    c.loop-arm.invariant c.in_ok-collect_arm.ensures
