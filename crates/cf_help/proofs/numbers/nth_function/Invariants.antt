use Rattle.std.proofs.Common.{◌≡◌, map, drop}
use Rattle.cf_tree.specs.DefView.{raw_item_tree}
use Rattle.cf_program.specs.Checked.{functions_of}
use Rattle.cf_help.specs.Numbers.{function_place}
use Rattle.cf_help.proofs.numbers.nth_function.Given as goal

abbrev pub invariant-loop-item : goal.invariant-loop-item
invariant-loop-item l =
    function_place (functions_of (map raw_item_tree (drop l.item-index l.items))) l.left ≡ function_place (functions_of (map raw_item_tree l.items)) l.function
