use Rattle.std.proofs.Common.{◌≡◌, ◌++◌, [], map, drop}
use Rattle.cf_tree.specs.DefView.{raw_item_tree}
use Rattle.cf_help.specs.Numbers.{numbered_items}
use Rattle.cf_help.proofs.numbers.all_places.Given as goal

abbrev pub invariant-loop-item : goal.invariant-loop-item
invariant-loop-item l =
    l.out.items ++ numbered_items (map (λ n. n.now) l.constants.items) (map raw_item_tree (drop l.item-index l.items))
    ≡ numbered_items [] (map raw_item_tree l.items)
