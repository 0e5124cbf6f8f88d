use Rattle.std.proofs.Common.{◌≡◌, length}
use Rattle.cf_tree.specs.CodeView.{arm_trees}
use Rattle.cf_pass.specs.DropArms.{all_dead}
use Rattle.cf_pass.proofs.dead_arms.all_dead.Given as goal

abbrev pub invariant-loop-arm : goal.invariant-loop-arm
invariant-loop-arm l = all_dead (arm_trees l.rest) ≡ all_dead (arm_trees l.arms)

abbrev pub decreases-loop-arm : goal.decreases-loop-arm
decreases-loop-arm l = length l.rest
