use Rattle.std.proofs.Common.{◌≡◌, ◌+◌, ◌*◌, map, take, drop, All}
use Rattle.cf_tree.specs.CodeView.{code_tree}
use Rattle.cf_tree.specs.DefView.{def_tree}
use Rattle.cf_tree.specs.ExprView.{expr_tree, expr_trees}
use Rattle.cf_build.specs.Codes.{code_among}
use Rattle.cf_build.specs.Known.{AreAllKnown}
use Rattle.cf_shift.specs.Shifted.{HasLevels}
use Rattle.cf_build.proofs.CalledCodes.{sizes}
use Rattle.cf_build.proofs.codes.+code.Given as goal

abbrev pub decreases-code : goal.decreases-code
decreases-code l = 8 * (goal.size-code l + sizes l.around.now.before.now) + 2

abbrev pub decreases-boxed : goal.decreases-boxed
decreases-boxed l = 8 * (goal.size-boxed l + sizes l.around.now.before.now) + 3

abbrev pub decreases-all : goal.decreases-all
decreases-all l = 8 * (goal.size-all l + sizes l.around.now.before.now) + 3

abbrev pub decreases-callee : goal.decreases-callee
decreases-callee l = 8 * sizes l.around.now.before.now + 1

abbrev pub invariant-all-loop-expr : goal.invariant-all-loop-expr
invariant-all-loop-expr l =
    (map code_tree l.all.items ≡ map (λ e. code_among (map def_tree l.around.before.now) l.around.by l.n e) (map expr_tree (take l.expr-index l.exprs)))
    × All (λ c. HasLevels (code_tree c)) l.all.items × AreAllKnown l.around.solves.now.codes.items (expr_trees (drop l.expr-index l.exprs))
