use Rattle.std.proofs.Common.{◌≡◌, ◌++◌, [], map, drop}
use Rattle.cf_tree.specs.DefView.{raw_item_tree}
use Rattle.cf_advice.specs.Spots.{spots_behind}
use Rattle.cf_advice.specs.SpotView.{spot_tree}
use Rattle.cf_advice.proofs.spots.spots_in_items.Given as goal

abbrev pub invariant-loop-item : goal.invariant-loop-item
invariant-loop-item l =
    map spot_tree l.out.items ++ spots_behind (map (λ n. n.now) l.constants.items) (map raw_item_tree (drop l.item-index l.items))
    ≡ spots_behind [] (map raw_item_tree l.items)
