use Rattle.std.proofs.Common.{◌≡◌, drop}
use Rattle.cf_tree.specs.ExprView.{expr_trees, match_arm_trees}
use Rattle.cf_advice.specs.Unused.{stands_among, stands_in_arms}
use Rattle.cf_advice.proofs.unused.+stands.Given as goal

abbrev pub invariant-stands_among-loop-expr : goal.invariant-stands_among-loop-expr
invariant-stands_among-loop-expr l = stands_among l.level (expr_trees (drop l.expr-index l.exprs)) ≡ stands_among l.level (expr_trees l.exprs)

abbrev pub invariant-stands_in_arms-loop-arm : goal.invariant-stands_in_arms-loop-arm
invariant-stands_in_arms-loop-arm l =
    stands_in_arms l.level (match_arm_trees (drop l.arm-index l.arms)) ≡ stands_in_arms l.level (match_arm_trees l.arms)
