use Rattle.std.proofs.Common.{◌≡◌, ◌++◌, map, take, drop}
use Rattle.cf_tree.specs.ExprView.{expr_trees}
use Rattle.cf_build.specs.Chooses.{chooses_in_all}
use Rattle.cf_program.specs.NoForm.{HaveNoForm}
use Rattle.cf_program.specs.NoMatch.{HaveNoMatch}
use Rattle.cf_tree.specs.ChooseView.{choose_tree}
use Rattle.cf_build.proofs.chooses.+collect.Given as goal

abbrev pub invariant-collect_all-loop-expr : goal.invariant-collect_all-loop-expr
invariant-collect_all-loop-expr l =
    (map choose_tree l.chooses.items ≡ map choose_tree l.fn.chooses.items ++ chooses_in_all (expr_trees (take l.expr-index l.exprs)))
    × HaveNoMatch (expr_trees (drop l.expr-index l.exprs)) × HaveNoForm (expr_trees (drop l.expr-index l.exprs))
