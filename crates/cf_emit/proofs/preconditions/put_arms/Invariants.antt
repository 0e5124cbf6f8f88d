use Rattle.std.proofs.Common.{◌≡◌, ◌++◌, drop}
use Rattle.cf_tree.specs.CodeView.{arm_trees}
use Rattle.cf_emit.specs.Printed.{pre_arms_text}
use Rattle.cf_emit.proofs.preconditions.put_arms.Given as goal

abbrev pub invariant-loop-arm : goal.invariant-loop-arm
invariant-loop-arm l = l.out.items ++ pre_arms_text (arm_trees (drop l.arm-index l.arms)) ≡ l.fn.out.items ++ pre_arms_text (arm_trees l.arms)
