use Rattle.std.proofs.Common.{◌≡◌, [], map, drop}
use Rattle.cf_tree.specs.DefView.{raw_item_tree}
use Rattle.cf_help.specs.ValuedView.{constant_seen}
use Rattle.cf_help.specs.Faults.{seen_of_item}
use Rattle.cf_help.specs.ScopeView.{around_by, defs_seen}
use Rattle.cf_help.specs.Spots.{first_item}
use Rattle.cf_help.proofs.rules.see_items.Given as goal

abbrev pub invariant-loop-item : goal.invariant-loop-item
invariant-loop-item l =
    first_item (seen_of_item l.how (map constant_seen l.values) l.fault) (around_by l.constants.items l.earlier.items (defs_seen l.functions))
    (map raw_item_tree (drop l.item-index l.items))
    ≡ first_item (seen_of_item l.how (map constant_seen l.values) l.fault) (around_by [] [] (defs_seen l.functions)) (map raw_item_tree l.items)
