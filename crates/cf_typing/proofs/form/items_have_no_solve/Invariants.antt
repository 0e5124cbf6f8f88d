use Rattle.std.proofs.Common.{◌≡◌, drop}
use Rattle.cf_tree.specs.CodeView.{item_trees}
use Rattle.cf_typing.specs.Bases.{items_have_no_solve}
use Rattle.cf_typing.proofs.form.items_have_no_solve.Given as goal

abbrev pub invariant-loop-item : goal.invariant-loop-item
invariant-loop-item l = items_have_no_solve (item_trees (drop l.item-index l.items)) ≡ items_have_no_solve (item_trees l.items)
