use Rattle.std.proofs.Common.{◌≡◌, ◌+◌, ◌*◌, map, take}
use Rattle.cf_tree.specs.DefView.{def_tree}
use Rattle.cf_tree.specs.ExprView.{expr_tree}
use Rattle.cf_form.specs.Expansion.{expanded, first_part}
use Rattle.cf_form.specs.Unfolding.{calls_of}
use Rattle.cf_form.specs.WideView.{part}
use Rattle.cf_form.proofs.Callees.{sizes}
use Rattle.cf_form.proofs.expansion.+expand.Given as goal

abbrev pub decreases-expand_form : goal.decreases-expand_form
decreases-expand_form l = 8 * (goal.size-expand_form l + sizes l.before.now) + 2

abbrev pub decreases-expand : goal.decreases-expand
decreases-expand l = 8 * (goal.size-expand l + sizes l.before.now) + 3

abbrev pub decreases-expand_first : goal.decreases-expand_first
decreases-expand_first l = 8 * (goal.size-expand_first l + sizes l.before.now) + 4

abbrev pub decreases-expand_all : goal.decreases-expand_all
decreases-expand_all l = 8 * (goal.size-expand_all l + sizes l.before.now) + 5

abbrev pub decreases-call : goal.decreases-call
decreases-call l = 8 * sizes l.before.now + 1

abbrev pub invariant-expand_all-loop-expr : goal.invariant-expand_all-loop-expr
invariant-expand_all-loop-expr l =
    map part l.all.items ≡ map (λ e. first_part (expanded (calls_of (map def_tree l.before)) (map part l.env) e)) (map expr_tree (take l.expr-index l.exprs))
