use Rattle.std.proofs.Common.{◌≡◌, [], drop, drop_of_length-le, arith}
use Rattle.cf_tree.proofs.+depth_raw.Goals as goal

pub measure::raw::raws_depth-returns : goal.measure::raw::raws_depth-returns
measure::raw::raws_depth-returns t c =
    let none : drop c.loop-raw.raw-index c.args.raws.now ≡ [] = drop_of_length-le c.args.raws.now {i = c.loop-raw.raw-index} (omega arith) in
    omega (arith, rw none at c.loop-raw.invariant.1)

pub measure::raw::arms_depth-returns : goal.measure::raw::arms_depth-returns
measure::raw::arms_depth-returns t c =
    let none : drop c.loop-arm.arm-index c.args.arms.now ≡ [] = drop_of_length-le c.args.arms.now {i = c.loop-arm.arm-index} (omega arith) in
    omega (arith, rw none at c.loop-arm.invariant.1)
