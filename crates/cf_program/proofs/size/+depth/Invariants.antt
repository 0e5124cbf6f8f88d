use Rattle.std.proofs.Common.{◌≡◌, ◌<◌, ◌^◌, max, slice_index, drop}
use Rattle.cf_tree.specs.ExprView.{expr_trees, match_arm_trees}
use Rattle.cf_tree.specs.RelSize.{capped}
use Rattle.cf_program.specs.Counted.{depth_of_all, depth_of_arms}
use Rattle.cf_program.proofs.size.+depth.Given as goal

abbrev pub invariant-depth_all-loop-expr : goal.invariant-depth_all-loop-expr
invariant-depth_all-loop-expr l = (l.deepest < 2 ^ 64) ×
    (capped (max l.deepest (depth_of_all (λ f. slice_index l.calls f) (expr_trees (drop l.expr-index l.exprs)))) ≡ capped
    (depth_of_all (λ f. slice_index l.calls f) (expr_trees l.exprs)))

abbrev pub invariant-depth_arms-loop-arm : goal.invariant-depth_arms-loop-arm
invariant-depth_arms-loop-arm l =
    (l.deepest < 2 ^ 64) × (l.level ≡ l.arm-index)
    × (capped (max l.deepest (depth_of_arms (λ f. slice_index l.calls f) l.level l.last (match_arm_trees (drop l.arm-index l.arms)))) ≡ capped
    (depth_of_arms (λ f. slice_index l.calls f) 0 l.last (match_arm_trees l.arms)))
