use Rattle.std.proofs.Common.{◌≡◌, [], drop, drop_of_length-le, arith}
use Rattle.cf_program.proofs.size.+depth.Goals as goal

pub depth_all-returns : goal.depth_all-returns
depth_all-returns t c =
    let none : drop c.loop-expr.expr-index c.args.exprs.now ≡ [] = drop_of_length-le c.args.exprs.now {i = c.loop-expr.expr-index} (omega arith) in
    omega (arith, rw none at c.loop-expr.invariant.1)

pub depth_arms-returns : goal.depth_arms-returns
depth_arms-returns t c =
    let none : drop c.loop-arm.arm-index c.args.arms.now ≡ [] = drop_of_length-le c.args.arms.now {i = c.loop-arm.arm-index} (omega arith) in
    omega (arith, rw none at c.loop-arm.invariant.2)
