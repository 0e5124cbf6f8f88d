use Rattle.std.proofs.Common.{◌≡◌, drop}
use Rattle.cf_tree.specs.CodeView.{code_trees}
use Rattle.cf_typing.specs.Bases.{have_no_solve}
use Rattle.cf_typing.proofs.form.+has_no_solve.Given as goal

abbrev pub invariant-have_no_solve-loop-code : goal.invariant-have_no_solve-loop-code
invariant-have_no_solve-loop-code l = have_no_solve (code_trees (drop l.code-index l.codes)) ≡ have_no_solve (code_trees l.codes)
