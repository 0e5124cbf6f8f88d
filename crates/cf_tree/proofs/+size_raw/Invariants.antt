use Rattle.std.proofs.Common.{◌≡◌, ◌+◌, ◌<◌, ◌^◌, drop}
use Rattle.cf_tree.specs.RelSize.{capped}
use Rattle.cf_tree.specs.RawTree.{raw_arms_size, raws_size}
use Rattle.cf_tree.specs.RawView.{raw_arm_trees, raw_trees}
use Rattle.cf_tree.proofs.+size_raw.Given as goal

abbrev pub invariant-measure::raw::raws_size-loop-raw : goal.invariant-measure::raw::raws_size-loop-raw
invariant-measure::raw::raws_size-loop-raw l =
    (l.total < 2 ^ 64) × (capped (l.total + raws_size (raw_trees (drop l.raw-index l.raws))) ≡ capped (raws_size (raw_trees l.raws)))

abbrev pub invariant-measure::raw::arms_size-loop-arm : goal.invariant-measure::raw::arms_size-loop-arm
invariant-measure::raw::arms_size-loop-arm l =
    (l.total < 2 ^ 64) × (capped (l.total + raw_arms_size (raw_arm_trees (drop l.arm-index l.arms))) ≡ capped (raw_arms_size (raw_arm_trees l.arms)))
