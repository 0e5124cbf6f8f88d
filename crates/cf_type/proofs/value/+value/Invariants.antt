use Rattle.std.proofs.Common.{◌≡◌, [], drop}
use Rattle.cf_tree.specs.RawView.{raw_trees, raw_arm_trees}
use Rattle.cf_program.specs.Constants.{values, value_arms}
use Rattle.cf_type.specs.Valued.{constants_of}
use Rattle.cf_type.proofs.value.+value.Given as goal

abbrev pub invariant-values-loop-raw : goal.invariant-values-loop-raw
invariant-values-loop-raw l =
    values (constants_of l.constants) l.all.items (raw_trees (drop l.raw-index l.raws)) ≡ values (constants_of l.constants) [] (raw_trees l.raws)

abbrev pub invariant-value_arms-loop-arm : goal.invariant-value_arms-loop-arm
invariant-value_arms-loop-arm l =
    value_arms (constants_of l.constants) (raw_arm_trees (drop l.arm-index l.arms)) ≡ value_arms (constants_of l.constants) (raw_arm_trees l.arms)
