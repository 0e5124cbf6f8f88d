use Rattle.std.proofs.Common.{◌≡◌, ◌<◌, ◌^◌, drop}
use Rattle.cf_tree.specs.ExprView.{match_arm_trees}
use Rattle.cf_tree.specs.RelSize.{capped}
use Rattle.cf_program.specs.Counted.{tests_depth}
use Rattle.cf_program.proofs.size.tests_depth.Given as goal

abbrev pub invariant-loop-arm : goal.invariant-loop-arm
invariant-loop-arm l =
    (l.depth < 2 ^ 64) × (capped (tests_depth l.depth (match_arm_trees (drop l.arm-index l.arms))) ≡ capped (tests_depth l.before (match_arm_trees l.arms)))
