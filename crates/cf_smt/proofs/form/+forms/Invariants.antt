use Rattle.std.proofs.Common.{◌≡◌, drop}
use Rattle.cf_tree.specs.CodeView.{code_trees}
use Rattle.cf_smt.specs.Forms.{have_forms}
use Rattle.cf_smt.proofs.form.+forms.Given as goal

abbrev pub invariant-have_forms-loop-code : goal.invariant-have_forms-loop-code
invariant-have_forms-loop-code l = have_forms (code_trees (drop l.code-index l.codes)) ≡ have_forms (code_trees l.codes)
