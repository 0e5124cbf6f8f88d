use Rattle.std.proofs.Common.{◌≡◌, [], map, drop}
use Rattle.cf_tree.specs.DefView.{raw_item_tree}
use Rattle.cf_help.specs.Faults.{constants_in}
use Rattle.cf_help.specs.ValuedView.{constant_seen}
use Rattle.cf_help.proofs.value.constants_in.Given as goal

abbrev pub invariant-loop-item : goal.invariant-loop-item
invariant-loop-item l =
    constants_in (map constant_seen l.all.items) (map raw_item_tree (drop l.item-index l.items)) ≡ constants_in [] (map raw_item_tree l.items)
