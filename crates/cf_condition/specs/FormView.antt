-- The plain forms that the forms of the program stand for.
use Rattle.std.specs.Prelude.{map, Option, Some, None}
use Rattle.cf_tree.specs.declared.rel.Rel.{Rel}
use Rattle.cf_tree.specs.RelTree.{RelTree}
use Rattle.cf_tree.specs.RelView.{set_tree, term_tree, rel_tree}
use Rattle.cf_condition.specs.declared.form.Form.{Form}
use Rattle.cf_condition.specs.declared.form.Form.TheVariants.{Number, Set, Truth, Unwritten}
use Rattle.cf_condition.specs.declared.arms.Walk.{Walk as DeclaredWalk}
use Rattle.cf_condition.specs.Forms.{FormTree, number_form, set_form, truth_form, unwritten}
use Rattle.cf_condition.specs.Conditions.{Walk}

abbrev pub form_tree : Form → FormTree
form_tree (Number t) = number_form (term_tree t.value)
form_tree (Set s) = set_form (set_tree s.value)
form_tree (Truth r) = truth_form (rel_tree r.value)
form_tree Unwritten = unwritten

abbrev pub walk_tree : DeclaredWalk → Walk
walk_tree w = record { forms = map form_tree w.forms.items; needs = form_tree w.needs }

abbrev pub rel_option : Option Rel → Option RelTree
rel_option None = None
rel_option (Some r) = Some (rel_tree r)
