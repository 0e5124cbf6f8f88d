use Rattle.std.proofs.Common.{◌≡◌, ◌<◌, ◌^◌, max, drop}
use Rattle.cf_tree.specs.RelSize.{capped}
use Rattle.cf_tree.specs.RawTree.{raw_arms_depth, raws_depth}
use Rattle.cf_tree.specs.RawView.{raw_arm_trees, raw_trees}
use Rattle.cf_tree.proofs.+depth_raw.Given as goal

abbrev pub invariant-measure::raw::raws_depth-loop-raw : goal.invariant-measure::raw::raws_depth-loop-raw
invariant-measure::raw::raws_depth-loop-raw l =
    (l.deepest < 2 ^ 64) × (capped (max l.deepest (raws_depth (raw_trees (drop l.raw-index l.raws)))) ≡ capped (raws_depth (raw_trees l.raws)))

abbrev pub invariant-measure::raw::arms_depth-loop-arm : goal.invariant-measure::raw::arms_depth-loop-arm
invariant-measure::raw::arms_depth-loop-arm l =
    (l.deepest < 2 ^ 64) × (capped (max l.deepest (raw_arms_depth (raw_arm_trees (drop l.arm-index l.arms)))) ≡ capped (raw_arms_depth (raw_arm_trees l.arms)))
