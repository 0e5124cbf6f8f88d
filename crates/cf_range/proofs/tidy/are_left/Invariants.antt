use Rattle.std.proofs.Common.{◌≡◌, drop}
use Rattle.cf_tree.specs.CodeView.{arm_trees}
use Rattle.cf_range.specs.Tidied.{are_left}
use Rattle.cf_range.proofs.tidy.are_left.Given as goal

abbrev pub invariant-loop-arm : goal.invariant-loop-arm
invariant-loop-arm l = are_left (arm_trees (drop l.arm-index l.arms)) ≡ are_left (arm_trees l.arms)
