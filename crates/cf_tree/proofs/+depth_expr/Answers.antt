use Rattle.std.proofs.Common.{◌≡◌, [], drop, drop_of_length-le, arith}
use Rattle.cf_tree.proofs.+depth_expr.Goals as goal

pub measure::expr::exprs_depth-returns : goal.measure::expr::exprs_depth-returns
measure::expr::exprs_depth-returns t c =
    let none : drop c.loop-expr.expr-index c.args.exprs.now ≡ [] = drop_of_length-le c.args.exprs.now {i = c.loop-expr.expr-index} (omega arith) in
    omega (arith, rw none at c.loop-expr.invariant.1)

pub measure::expr::arms_depth-returns : goal.measure::expr::arms_depth-returns
measure::expr::arms_depth-returns t c =
    let none : drop c.loop-arm.arm-index c.args.arms.now ≡ [] = drop_of_length-le c.args.arms.now {i = c.loop-arm.arm-index} (omega arith) in
    omega (arith, rw none at c.loop-arm.invariant.1)
