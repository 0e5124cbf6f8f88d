use Rattle.cf_tree.specs.CodeView.{arm_trees}
use Rattle.cf_pass.proofs.LetArms.{SoFar}
use Rattle.cf_pass.proofs.unused_lets.drop_in_arms.Given as goal

abbrev pub invariant-loop-arm : goal.invariant-loop-arm
invariant-loop-arm l = SoFar l.outside (arm_trees l.fn.arms.items) l.arm-items l.arm-index l.removed
