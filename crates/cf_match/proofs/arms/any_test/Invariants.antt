use Rattle.std.proofs.Common.{◌≡◌, length}
use Rattle.cf_tree.specs.ExprView.{expr_tree, match_arm_trees}
use Rattle.cf_program.specs.Lowered.{any_test}
use Rattle.cf_match.proofs.arms.any_test.Given as goal

abbrev pub invariant-loop-arm : goal.invariant-loop-arm
invariant-loop-arm l =
    any_test l.level (expr_tree l.tests.value) (match_arm_trees l.rest) ≡ any_test l.level (expr_tree l.fn.before.value) (match_arm_trees l.arms)

abbrev pub decreases-loop-arm : goal.decreases-loop-arm
decreases-loop-arm l = length l.rest
