use Rattle.std.proofs.Common.{rules, ◌≡◌, ◌∙◌, map, sym, subst}
use Rattle.cf_tree.specs.declared.expr.Expr.{the_lemmas}
use Rattle.cf_tree.specs.DefView.{def_tree}
use Rattle.cf_tree.specs.ExprTree.{expr_neg, expr_not, expr_abs, expr_divides, expr_div, expr_mod, expr_if, expr_let}
use Rattle.cf_tree.specs.ExprView.{expr_tree}
use Rattle.cf_form.specs.declared.floor.Floor.TheVariants as floors
use Rattle.cf_form.specs.Floor.{HasFloor}
use Rattle.cf_form.specs.Unfolding.{calls_of}
use Rattle.cf_form.proofs.FloorForms.{neg_has, abs_has, div_has, mod_has, divides_has, not_has, if_has, let_has}
use Rattle.cf_form.proofs.floor.+floor_of.Goals as goal

pub returns-in_ok-weight-in-Neg : goal.returns-in_ok-weight-in-Neg
returns-in_ok-weight-in-Neg t c =
    let calls = calls_of (map def_tree c.args.before.now) in
    let tree : expr_tree c.args.expr.now ≡ expr_neg (expr_tree c.in-Neg.a.value) = search (rules, the_lemmas) in
    subst (λ e. HasFloor calls c.args.env.now e (floors.Number c.in_ok-weight-in-Neg.weight)) (sym tree)
    (neg_has calls c.args.env.now c.in_ok-floor_of-in-Neg.field-0 c.in_ok-weight-in-Neg.weight (expr_tree c.in-Neg.a.value)
    (subst (λ x. HasFloor calls c.args.env.now (expr_tree x) c.in_ok-floor_of-in-Neg.field-0) c.deref.ensures c.in_ok-floor_of-in-Neg.ensures)
    c.in_ok-weight-in-Neg.ensures)

pub returns-in_ok-weight-in-Abs : goal.returns-in_ok-weight-in-Abs
returns-in_ok-weight-in-Abs t c =
    let calls = calls_of (map def_tree c.args.before.now) in
    let tree : expr_tree c.args.expr.now ≡ expr_abs (expr_tree c.in-Abs.a.value) = search (rules, the_lemmas) in
    subst (λ e. HasFloor calls c.args.env.now e (floors.Number c.in_ok-weight-in-Abs.weight)) (sym tree)
    (abs_has calls c.args.env.now c.in_ok-floor_of-in-Abs.field-0 c.in_ok-weight-in-Abs.weight (expr_tree c.in-Abs.a.value)
    (subst (λ x. HasFloor calls c.args.env.now (expr_tree x) c.in_ok-floor_of-in-Abs.field-0) c.deref-in-Abs.ensures c.in_ok-floor_of-in-Abs.ensures)
    c.in_ok-weight-in-Abs.ensures)

pub returns-in_ok-weight-in-Div : goal.returns-in_ok-weight-in-Div
returns-in_ok-weight-in-Div t c =
    let calls = calls_of (map def_tree c.args.before.now) in
    let tree : expr_tree c.args.expr.now ≡ expr_div (expr_tree c.in-Div.of.value) c.in-Div.k = search (rules, the_lemmas) in
    subst (λ e. HasFloor calls c.args.env.now e (floors.Number c.in_ok-weight-in-Div.weight)) (sym tree)
    (div_has calls c.args.env.now c.in_ok-floor_of-in-Div.field-0 c.in_ok-weight-in-Div.weight (expr_tree c.in-Div.of.value)
    (subst (λ x. HasFloor calls c.args.env.now (expr_tree x) c.in_ok-floor_of-in-Div.field-0) c.deref-in-Div.ensures c.in_ok-floor_of-in-Div.ensures)
    c.in_ok-weight-in-Div.ensures c.in-Div.k)

pub returns-in_ok-weight-in-Mod : goal.returns-in_ok-weight-in-Mod
returns-in_ok-weight-in-Mod t c =
    let calls = calls_of (map def_tree c.args.before.now) in
    let tree : expr_tree c.args.expr.now ≡ expr_mod (expr_tree c.in-Mod.of.value) c.in-Mod.k = search (rules, the_lemmas) in
    subst (λ e. HasFloor calls c.args.env.now e (floors.Number c.in_ok-weight-in-Mod.weight)) (sym tree)
    (mod_has calls c.args.env.now c.in_ok-floor_of-in-Mod.field-0 c.in_ok-weight-in-Mod.weight (expr_tree c.in-Mod.of.value)
    (subst (λ x. HasFloor calls c.args.env.now (expr_tree x) c.in_ok-floor_of-in-Mod.field-0) c.deref-in-Mod.ensures c.in_ok-floor_of-in-Mod.ensures)
    c.in_ok-weight-in-Mod.ensures c.in-Mod.k)

pub returns-in_ok-weight-in-Divides : goal.returns-in_ok-weight-in-Divides
returns-in_ok-weight-in-Divides t c =
    let calls = calls_of (map def_tree c.args.before.now) in
    let tree : expr_tree c.args.expr.now ≡ expr_divides c.in-Divides.k (expr_tree c.in-Divides.of.value) = search (rules, the_lemmas) in
    subst (λ e. HasFloor calls c.args.env.now e (floors.Truth c.in_ok-weight-in-Divides.weight)) (sym tree)
    (divides_has calls c.args.env.now c.in_ok-floor_of-in-Divides.field-0 c.in_ok-weight-in-Divides.weight (expr_tree c.in-Divides.of.value)
    (subst (λ x. HasFloor calls c.args.env.now (expr_tree x) c.in_ok-floor_of-in-Divides.field-0) c.deref-in-Divides.ensures c.in_ok-floor_of-in-Divides.ensures)
    c.in_ok-weight-in-Divides.ensures c.in-Divides.k)

pub returns-in_ok-weight-in-Not : goal.returns-in_ok-weight-in-Not
returns-in_ok-weight-in-Not t c =
    let calls = calls_of (map def_tree c.args.before.now) in
    let tree : expr_tree c.args.expr.now ≡ expr_not (expr_tree c.in-Not.a.value) = search (rules, the_lemmas) in
    subst (λ e. HasFloor calls c.args.env.now e (floors.Truth c.in_ok-weight-in-Not.weight)) (sym tree)
    (not_has calls c.args.env.now c.in_ok-floor_of-in-Not.field-0 c.in_ok-weight-in-Not.weight (expr_tree c.in-Not.a.value)
    (subst (λ x. HasFloor calls c.args.env.now (expr_tree x) c.in_ok-floor_of-in-Not.field-0) c.deref-in-Not.ensures c.in_ok-floor_of-in-Not.ensures)
    c.in_ok-weight-in-Not.ensures)

pub returns-in_ok-no-in-If : goal.returns-in_ok-no-in-If
returns-in_ok-no-in-If t c =
    let calls = calls_of (map def_tree c.args.before.now) in
    let q = c.in-If in
    let tree : expr_tree c.args.expr.now ≡ expr_if (expr_tree q.test.value) (expr_tree q.yes.value) (expr_tree q.no.value) = search (rules, the_lemmas) in
    subst (λ e. HasFloor calls c.args.env.now e (floors.Truth c.sum_of_four.result)) (sym tree)
    (if_has calls c.args.env.now c.sum_of_four.result c.in_ok-test-in-If.test c.in_ok-yes-in-If.yes c.in_ok-no-in-If.no
    c.in_ok-floor_of-in-If.field-0 c.in_ok-floor_of-in-If-2.field-0 c.in_ok-floor_of-in-If-3.field-0
    (expr_tree q.test.value) (expr_tree q.yes.value) (expr_tree q.no.value)
    (subst (λ x. HasFloor calls c.args.env.now (expr_tree x) c.in_ok-floor_of-in-If.field-0) c.deref-in-If.ensures c.in_ok-floor_of-in-If.ensures)
    (subst (λ x. HasFloor calls c.args.env.now (expr_tree x) c.in_ok-floor_of-in-If-2.field-0) c.deref-in-If-2.ensures c.in_ok-floor_of-in-If-2.ensures)
    (subst (λ x. HasFloor calls c.args.env.now (expr_tree x) c.in_ok-floor_of-in-If-3.field-0) c.deref-in-If-3.ensures c.in_ok-floor_of-in-If-3.ensures)
    c.in_ok-test-in-If.ensures c.in_ok-yes-in-If.ensures c.in_ok-no-in-If.ensures c.sum_of_four.ensures)

pub returns-in_ok-body-in-Let : goal.returns-in_ok-body-in-Let
returns-in_ok-body-in-Let t c =
    let calls = calls_of (map def_tree c.args.before.now) in
    let q = c.in-Let in
    let tree : expr_tree c.args.expr.now ≡ expr_let q.count (expr_tree q.value.value) (expr_tree q.body.value) = search (rules, the_lemmas) in
    subst (λ e. HasFloor calls c.args.env.now e c.in_ok-body-in-Let.body) (sym tree)
    (let_has calls c.args.env.now q.count (expr_tree q.value.value) (expr_tree q.body.value) c.in_ok-value-in-Let.value c.in_ok-body-in-Let.body
    c.deref-in-Let-2.result.now
    (subst (λ x. HasFloor calls c.args.env.now (expr_tree x) c.in_ok-value-in-Let.value) c.deref-in-Let.ensures c.in_ok-value-in-Let.ensures)
    (subst (λ x. HasFloor calls c.deref-in-Let-2.result.now (expr_tree x) c.in_ok-body-in-Let.body) c.deref-in-Let-3.ensures c.in_ok-body-in-Let.ensures)
    (c.deref-in-Let-2.ensures.value ∙ c.in_ok-inner-in-Let.ensures))
