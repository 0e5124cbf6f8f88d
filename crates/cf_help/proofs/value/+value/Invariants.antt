use Rattle.std.proofs.Common.{◌≡◌, [], map, drop}
use Rattle.cf_tree.specs.RawView.{raw_trees, raw_arm_trees}
use Rattle.cf_program.specs.Constants.{values, value_arms}
use Rattle.cf_help.specs.ValuedView.{constant_seen}
use Rattle.cf_help.proofs.value.+value.Given as goal

abbrev pub invariant-values-loop-raw : goal.invariant-values-loop-raw
invariant-values-loop-raw l =
    values (map constant_seen l.constants) l.all.items (raw_trees (drop l.raw-index l.raws)) ≡ values (map constant_seen l.constants) [] (raw_trees l.raws)

abbrev pub invariant-value_arms-loop-arm : goal.invariant-value_arms-loop-arm
invariant-value_arms-loop-arm l =
    value_arms (map constant_seen l.constants) (raw_arm_trees (drop l.arm-index l.arms)) ≡ value_arms (map constant_seen l.constants) (raw_arm_trees l.arms)
