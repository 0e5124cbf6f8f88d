use Rattle.std.proofs.Common.{◌≡◌, ◌+◌, ◌<◌, ◌^◌, drop}
use Rattle.cf_tree.specs.RelSize.{capped}
use Rattle.cf_tree.specs.ExprTree.{exprs_size, match_arms_size}
use Rattle.cf_tree.specs.ExprView.{expr_trees, match_arm_trees}
use Rattle.cf_tree.proofs.+size_expr.Given as goal

abbrev pub invariant-measure::expr::exprs_size-loop-expr : goal.invariant-measure::expr::exprs_size-loop-expr
invariant-measure::expr::exprs_size-loop-expr l =
    (l.total < 2 ^ 64) × (capped (l.total + exprs_size (expr_trees (drop l.expr-index l.exprs))) ≡ capped (exprs_size (expr_trees l.exprs)))

abbrev pub invariant-measure::expr::arms_size-loop-arm : goal.invariant-measure::expr::arms_size-loop-arm
invariant-measure::expr::arms_size-loop-arm l =
    (l.total < 2 ^ 64) × (capped (l.total + match_arms_size (match_arm_trees (drop l.arm-index l.arms))) ≡ capped (match_arms_size (match_arm_trees l.arms)))
