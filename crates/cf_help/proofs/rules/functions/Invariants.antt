use Rattle.std.proofs.Common.{◌≡◌, ◌++◌, map, drop}
use Rattle.cf_tree.specs.DefView.{raw_item_tree}
use Rattle.cf_program.specs.Checked.{functions_of}
use Rattle.cf_help.specs.ScopeView.{defs_seen}
use Rattle.cf_help.proofs.rules.functions.Given as goal

abbrev pub invariant-loop-item : goal.invariant-loop-item
invariant-loop-item l =
    defs_seen l.all.items ++ functions_of (map raw_item_tree (drop l.item-index l.items)) ≡ functions_of (map raw_item_tree l.items)
