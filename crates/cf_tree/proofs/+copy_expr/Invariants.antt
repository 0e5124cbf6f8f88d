use Rattle.std.proofs.Common.{◌≡◌, map, take}
use Rattle.cf_tree.specs.ExprView.{expr_tree, match_arm_tree}
use Rattle.cf_tree.proofs.+copy_expr.Given as goal

abbrev pub invariant-copy::expr::copy_exprs-loop-expr : goal.invariant-copy::expr::copy_exprs-loop-expr
invariant-copy::expr::copy_exprs-loop-expr l = map expr_tree l.all.items ≡ map expr_tree (take l.expr-index l.exprs)

abbrev pub invariant-copy::expr::copy_arms-loop-arm : goal.invariant-copy::expr::copy_arms-loop-arm
invariant-copy::expr::copy_arms-loop-arm l = map match_arm_tree l.all.items ≡ map match_arm_tree (take l.arm-index l.arms)
