use Rattle.std.proofs.Common.{rules, ◌≡◌, map, ap}
use Rattle.cf_tree.specs.declared.expr.Expr.{the_lemmas}
use Rattle.cf_tree.specs.DefView.{def_tree}
use Rattle.cf_tree.specs.ExprTree.{at_any, expr_choose_where}
use Rattle.cf_tree.specs.ExprView.{expr_tree, given_expr, aim_expr}
use Rattle.cf_form.specs.Unfolding.{calls_of}
use Rattle.cf_form.proofs.ChooseSteps.{any_formed}
use Rattle.cf_form.proofs.choose.choose.Goals as goal

pub returns-in-Any : goal.returns-in-Any
returns-in-Any c =
    let q = c.in-ChooseWhere in
    let any : aim_expr q.aim ≡ at_any = search (rules, the_lemmas) in
    let tree : expr_tree c.args.expr.now ≡
    expr_choose_where q.number q.scope.items q.outputs.items q.hidden.items (given_expr q.given) (expr_tree q.rel.value) at_any =
    search (rules, the_lemmas) in
    any_formed (calls_of (map def_tree c.args.before.now)) c.choose_where.result q.number q.scope.items _ q.outputs.items _ q.hidden.items _
    (given_expr q.given) (expr_tree q.rel.value) (expr_tree c.deref-in-Any-3.result.now) (expr_tree c.args.expr.now) c.deref.ensures.value c.deref-in-Any.ensures.value
    c.deref-in-Any-2.ensures.value (ap expr_tree c.deref-in-Any-3.ensures) tree c.choose_where.ensures
