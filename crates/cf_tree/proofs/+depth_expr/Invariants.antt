use Rattle.std.proofs.Common.{◌≡◌, ◌<◌, ◌^◌, max, drop}
use Rattle.cf_tree.specs.RelSize.{capped}
use Rattle.cf_tree.specs.ExprTree.{exprs_depth, match_arms_depth}
use Rattle.cf_tree.specs.ExprView.{expr_trees, match_arm_trees}
use Rattle.cf_tree.proofs.+depth_expr.Given as goal

abbrev pub invariant-measure::expr::exprs_depth-loop-expr : goal.invariant-measure::expr::exprs_depth-loop-expr
invariant-measure::expr::exprs_depth-loop-expr l =
    (l.deepest < 2 ^ 64) × (capped (max l.deepest (exprs_depth (expr_trees (drop l.expr-index l.exprs)))) ≡ capped (exprs_depth (expr_trees l.exprs)))

abbrev pub invariant-measure::expr::arms_depth-loop-arm : goal.invariant-measure::expr::arms_depth-loop-arm
invariant-measure::expr::arms_depth-loop-arm l =
    (l.deepest < 2 ^ 64) × (capped (max l.deepest (match_arms_depth (match_arm_trees (drop l.arm-index l.arms)))) ≡ capped
    (match_arms_depth (match_arm_trees l.arms)))
