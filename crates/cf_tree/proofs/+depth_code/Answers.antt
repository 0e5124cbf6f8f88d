use Rattle.std.proofs.Common.{◌≡◌, [], drop, drop_of_length-le, arith}
use Rattle.cf_tree.proofs.+depth_code.Goals as goal

pub measure::code::codes_depth-returns : goal.measure::code::codes_depth-returns
measure::code::codes_depth-returns t c =
    let none : drop c.loop-code.code-index c.args.codes.now ≡ [] = drop_of_length-le c.args.codes.now {i = c.loop-code.code-index} (omega arith) in
    omega (arith, rw none at c.loop-code.invariant.1)

pub measure::code::items_depth-returns : goal.measure::code::items_depth-returns
measure::code::items_depth-returns t c =
    let none : drop c.loop-item.item-index c.args.items.now ≡ [] = drop_of_length-le c.args.items.now {i = c.loop-item.item-index} (omega arith) in
    omega (arith, rw none at c.loop-item.invariant.1)

pub measure::code::arms_depth-returns : goal.measure::code::arms_depth-returns
measure::code::arms_depth-returns t c =
    let none : drop c.loop-arm.arm-index c.args.arms.now ≡ [] = drop_of_length-le c.args.arms.now {i = c.loop-arm.arm-index} (omega arith) in
    omega (arith, rw none at c.loop-arm.invariant.1)
