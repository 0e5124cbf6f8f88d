use Rattle.std.proofs.Common.{rules, ◌≡◌, ◌++◌, false, map, sym, subst}
use Rattle.cf_tree.specs.declared.expr.Expr.{the_lemmas}
use Rattle.cf_tree.specs.DefView.{def_tree}
use Rattle.cf_tree.specs.ExprTree.{at_any, expr_choose_where}
use Rattle.cf_tree.specs.ExprView.{expr_tree, given_expr, aim_expr}
use Rattle.cf_tree.specs.Params.{bases_of}
use Rattle.cf_form.specs.Floor.{HasFloor, IsHeavy, base_floor}
use Rattle.cf_form.specs.Formed.{has_truths}
use Rattle.cf_form.specs.Unfolding.{calls_of}
use Rattle.cf_form.proofs.SaturatedLaws.{choose_heavy_by}
use Rattle.cf_form.proofs.saturated.choose_floor.Goals as goal

pub returns-in_ok-weight-in-ChooseWhere-default-default-default-default-default-default-Any : goal.returns-in_ok-weight-in-ChooseWhere-default-default-default-default-default-default-Any
returns-in_ok-weight-in-ChooseWhere-default-default-default-default-default-default-Any c =
    let calls = calls_of (map def_tree c.args.before.now) in
    let q = c.in-ChooseWhere-default-default-default-default-default-default-Any in
    let any : aim_expr q.aim ≡ at_any = search (rules, the_lemmas) in
    let tree : expr_tree c.args.expr.now ≡
    expr_choose_where q.number q.scope.items q.outputs.items q.hidden.items (given_expr q.given) (expr_tree q.rel.value) at_any =
    search (rules, the_lemmas) in
    let inputs = c.deref-in-ChooseWhere-default-default-default-default-default-default-Any-5.result.now in
    let env = c.deref-in-ChooseWhere-default-default-default-default-default-default-Any-7.result.now in
    let are_inputs : inputs ≡ bases_of q.scope.items = search rules in
    let plain : has_truths inputs ≡ false = search rules in
    let all : env ≡ map base_floor (bases_of q.scope.items ++ q.outputs.items ++ q.hidden.items) = search rules in
    subst (IsHeavy calls c.in_ok-weight-in-ChooseWhere-default-default-default-default-default-default-Any.weight) (sym tree)
    (choose_heavy_by calls q.number q.scope.items q.outputs.items q.hidden.items (given_expr q.given) (expr_tree q.rel.value) c.in_ok-weight-in-ChooseWhere-default-default-default-default-default-default-Any.weight
    inputs env c.in_ok-floor_of-in-ChooseWhere-default-default-default-default-default-default-Any.field-0 c.in_ok-given_floor-in-ChooseWhere-default-default-default-default-default-default-Any.ensures
    (subst (λ x. HasFloor calls env (expr_tree x) c.in_ok-floor_of-in-ChooseWhere-default-default-default-default-default-default-Any.field-0) c.deref-in-ChooseWhere-default-default-default-default-default-default-Any-8.ensures c.in_ok-floor_of-in-ChooseWhere-default-default-default-default-default-default-Any.ensures)
    are_inputs plain all c.in_ok-weight-in-ChooseWhere-default-default-default-default-default-default-Any.ensures)
