use Rattle.std.proofs.Common.{◌≡◌, map, take}
use Rattle.cf_tree.specs.RawView.{raw_arm_tree, raw_tree}
use Rattle.cf_tree.proofs.+copy_raw.Given as goal

abbrev pub invariant-copy::raw::copy_raws-loop-raw : goal.invariant-copy::raw::copy_raws-loop-raw
invariant-copy::raw::copy_raws-loop-raw l = map raw_tree l.all.items ≡ map raw_tree (take l.raw-index l.raws)

abbrev pub invariant-copy::raw::copy_arms-loop-arm : goal.invariant-copy::raw::copy_arms-loop-arm
invariant-copy::raw::copy_arms-loop-arm l = map raw_arm_tree l.all.items ≡ map raw_arm_tree (take l.arm-index l.arms)
