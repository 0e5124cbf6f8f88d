use Rattle.std.proofs.Common.{◌≡◌, drop}
use Rattle.cf_tree.specs.RawView.{raw_arm_trees}
use Rattle.cf_help.specs.Faults.{arm_binder_at}
use Rattle.cf_help.proofs.places.arm_binder_at.Given as goal

abbrev pub invariant-loop-arm : goal.invariant-loop-arm
invariant-loop-arm l = arm_binder_at l.place (raw_arm_trees (drop l.arm-index l.arms)) ≡ arm_binder_at l.place (raw_arm_trees l.arms)
