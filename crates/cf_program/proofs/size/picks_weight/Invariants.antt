use Rattle.std.proofs.Common.{◌≡◌, ◌+◌, ◌<◌, ◌^◌, length}
use Rattle.cf_tree.specs.ExprView.{match_arm_trees}
use Rattle.cf_tree.specs.RelSize.{capped}
use Rattle.cf_program.specs.Counted.{picks_weight}
use Rattle.cf_program.proofs.size.picks_weight.Given as goal

abbrev pub invariant-loop-arm : goal.invariant-loop-arm
invariant-loop-arm l =
    (l.total < 2 ^ 64) × (capped (l.total + picks_weight (match_arm_trees l.rest)) ≡ capped (picks_weight (match_arm_trees l.fn.arms)))

abbrev pub decreases-loop-arm : goal.decreases-loop-arm
decreases-loop-arm l = length l.rest
