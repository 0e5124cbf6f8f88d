use Rattle.std.proofs.Common.{◌≡◌, map, take}
use Rattle.cf_tree.specs.CodeView.{arm_tree}
use Rattle.cf_choose.proofs.solved.Solved.code.Given as goal

abbrev pub invariant-loop-arm : goal.invariant-loop-arm
invariant-loop-arm l = map arm_tree l.arms.items ≡ map arm_tree (take l.arm-index l.arm-items)
