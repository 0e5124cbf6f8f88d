use Rattle.std.proofs.Common.{◌≡◌, map, take}
use Rattle.cf_tree.specs.CodeView.{arm_tree}
use Rattle.cf_choose.specs.Precondition.{needs_of}
use Rattle.cf_choose.proofs.needs.needs_of_all.Given as goal

abbrev pub invariant-loop-arm : goal.invariant-loop-arm
invariant-loop-arm l = map arm_tree l.all.items ≡ map needs_of (map arm_tree (take l.arm-index l.arms))
