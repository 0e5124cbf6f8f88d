use Rattle.std.proofs.Common.{◌≡◌, ◌-◌, length}
use Rattle.cf_tree.specs.CodeTree.{no_codes}
use Rattle.cf_tree.specs.CodeView.{code_trees}
use Rattle.cf_stmt.specs.Made.{append, vars_then}
use Rattle.cf_stmt.proofs.boxed.variables.Given as goal

abbrev pub invariant-loop-back : goal.invariant-loop-back
invariant-loop-back l = append (code_trees l.all.items) (vars_then 0 (length l.parts - l.back) no_codes) ≡ vars_then 0 (length l.parts) no_codes
