use Rattle.std.proofs.Common.{◌≡◌, ◌++◌, map, drop}
use Rattle.cf_condition.specs.Forms.{scope_forms}
use Rattle.cf_condition.specs.FormView.{form_tree}
use Rattle.cf_condition.proofs.form.scope_forms.Given as goal

abbrev pub invariant-loop-i : goal.invariant-loop-i
invariant-loop-i l = map form_tree l.forms.items ++ scope_forms l.i (drop l.i l.scope) ≡ scope_forms 0 l.scope
