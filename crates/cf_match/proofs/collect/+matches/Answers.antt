use Rattle.std.proofs.Common.{◌<◌, length, arith}
use Rattle.cf_match.proofs.LoopSteps.{expr_found, arm_found}
use Rattle.cf_match.proofs.collect.+matches.Goals as goal

pub collect_all-loop-expr-preserved : goal.collect_all-loop-expr-preserved
collect_all-loop-expr-preserved t c =
    let l : c.loop-expr.expr-index < length c.args.exprs.now = omega (arith, c.loop-expr-test.true) in
    expr_found c.args.exprs.now c.loop-expr.expr-index c.expr-item.result _ _ _ l c.expr-item.is c.loop-expr.invariant c.in_ok-collect_expr.ensures

pub collect_arms-loop-arm-preserved : goal.collect_arms-loop-arm-preserved
collect_arms-loop-arm-preserved t c =
    let l : c.loop-arm.arm-index < length c.args.arms.now = omega (arith, c.loop-arm-test.true) in
    arm_found c.args.arms.now c.loop-arm.arm-index c.arm-item.result _ _ _ l c.arm-item.is c.loop-arm.invariant c.in_ok-collect_arm.ensures
