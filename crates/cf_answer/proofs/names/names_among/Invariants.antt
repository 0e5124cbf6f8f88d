use Rattle.std.proofs.Common.{◌≡◌, length, map}
use Rattle.cf_tree.specs.DefView.{raw_item_tree}
use Rattle.cf_answer.specs.ResultNames.{result_names}
use Rattle.cf_answer.proofs.names.names_among.Given as goal

abbrev pub invariant-items : goal.invariant-items
invariant-items l = result_names (map raw_item_tree l.rest) ≡ result_names (map raw_item_tree l.items)

abbrev pub decreases-items : goal.decreases-items
decreases-items l = length l.rest
