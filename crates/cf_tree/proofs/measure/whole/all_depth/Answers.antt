use Rattle.std.proofs.Common.{◌≡◌, [], drop, drop_of_length-le, arith}
use Rattle.cf_tree.proofs.measure.whole.all_depth.Goals as goal

pub returns : goal.returns
returns c =
    let none : drop c.loop-item.item-index c.args.items.now ≡ [] = drop_of_length-le c.args.items.now {i = c.loop-item.item-index} (omega arith) in
    omega (arith, rw none at c.loop-item.invariant.1)
