use Rattle.std.proofs.Common.{◌≡◌, ◌<◌, ◌^◌, max, length}
use Rattle.cf_tree.specs.ExprView.{match_arm_trees}
use Rattle.cf_tree.specs.RelSize.{capped}
use Rattle.cf_program.specs.Counted.{picks_depth}
use Rattle.cf_program.proofs.size.picks_depth.Given as goal

abbrev pub invariant-loop-arm : goal.invariant-loop-arm
invariant-loop-arm l =
    (l.deepest < 2 ^ 64) × (l.level < 2 ^ 64)
    × (capped (max l.deepest (picks_depth l.level (match_arm_trees l.rest))) ≡ capped (picks_depth 0 (match_arm_trees l.fn.arms)))

abbrev pub decreases-loop-arm : goal.decreases-loop-arm
decreases-loop-arm l = length l.rest
