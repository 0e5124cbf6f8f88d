use Rattle.std.proofs.Common.{◌≡◌, ◌+◌, drop}
use Rattle.cf_tree.specs.CodeView.{arm_trees}
use Rattle.cf_range.specs.Tidied.{count_reached}
use Rattle.cf_range.proofs.tidy.count_reached.Given as goal

abbrev pub invariant-loop-arm : goal.invariant-loop-arm
invariant-loop-arm l = (l.n ≡ l.arm-index) × (l.n + count_reached (arm_trees (drop l.arm-index l.arms)) ≡ count_reached (arm_trees l.arms))
