use Rattle.std.proofs.Common.{◌≡◌, drop}
use Rattle.cf_tree.specs.CodeView.{code_trees}
use Rattle.cf_stmt.specs.Fitting.{fits}
use Rattle.cf_stmt.specs.Made.{stay}
use Rattle.cf_stmt.proofs.expression.all_fit.Given as goal

abbrev pub invariant-loop-code : goal.invariant-loop-code
invariant-loop-code l = stay (fits l.others) (code_trees (drop l.code-index l.codes)) ≡ stay (fits l.others) (code_trees l.codes)
