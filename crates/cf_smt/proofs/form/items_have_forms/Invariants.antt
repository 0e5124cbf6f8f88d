use Rattle.std.proofs.Common.{◌≡◌, drop}
use Rattle.cf_tree.specs.CodeView.{item_trees}
use Rattle.cf_smt.specs.Forms.{items_have_forms}
use Rattle.cf_smt.proofs.form.items_have_forms.Given as goal

abbrev pub invariant-loop-item : goal.invariant-loop-item
invariant-loop-item l = items_have_forms (item_trees (drop l.item-index l.items)) ≡ items_have_forms (item_trees l.items)
