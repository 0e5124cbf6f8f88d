use Rattle.std.proofs.Common.{◌≡◌, ◌+◌, ◌<◌, ◌^◌, drop}
use Rattle.cf_tree.specs.ExprView.{match_arm_trees}
use Rattle.cf_tree.specs.RelSize.{capped}
use Rattle.cf_program.specs.Counted.{tests_weight}
use Rattle.cf_program.proofs.size.tests_weight.Given as goal

abbrev pub invariant-loop-arm : goal.invariant-loop-arm
invariant-loop-arm l =
    (l.total < 2 ^ 64) × (capped (l.total + tests_weight (match_arm_trees (drop l.arm-index l.arms))) ≡ capped (tests_weight (match_arm_trees l.arms)))
