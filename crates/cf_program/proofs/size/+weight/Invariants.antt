use Rattle.std.proofs.Common.{◌≡◌, ◌+◌, ◌<◌, ◌^◌, slice_index, drop}
use Rattle.cf_tree.specs.ExprView.{expr_trees, match_arm_trees}
use Rattle.cf_tree.specs.RelSize.{capped}
use Rattle.cf_program.specs.Counted.{weight_of_all, weight_of_arms}
use Rattle.cf_program.proofs.size.+weight.Given as goal

abbrev pub invariant-weight_all-loop-expr : goal.invariant-weight_all-loop-expr
invariant-weight_all-loop-expr l = (l.total < 2 ^ 64) ×
    (capped (l.total + weight_of_all (λ f. slice_index l.calls f) (expr_trees (drop l.expr-index l.exprs))) ≡ capped
    (weight_of_all (λ f. slice_index l.calls f) (expr_trees l.exprs)))

abbrev pub invariant-weight_arms-loop-arm : goal.invariant-weight_arms-loop-arm
invariant-weight_arms-loop-arm l = (l.total < 2 ^ 64) ×
    (capped (l.total + weight_of_arms (λ f. slice_index l.calls f) (match_arm_trees (drop l.arm-index l.arms))) ≡ capped
    (weight_of_arms (λ f. slice_index l.calls f) (match_arm_trees l.arms)))
