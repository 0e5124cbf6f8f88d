use Rattle.std.proofs.Common.{rules, arith, ◌≡◌, IfOk, map, sym, subst}
use Rattle.cf_tree.specs.declared.expr.Expr.{the_lemmas}
use Rattle.cf_tree.specs.ExprTree.{expr_match}
use Rattle.cf_tree.specs.ExprView.{expr_tree, match_arm_trees}
use Rattle.cf_program.specs.Lowered.{lowered}
use Rattle.cf_match.specs.Forms.{bodies_lowered, match_of}
use Rattle.cf_match.proofs.FormLaws.{match_lowered}
use Rattle.cf_match.proofs.LoopSteps.{exprs_at_end, bodies_at_end}
use Rattle.cf_match.proofs.lowering.+lower.Goals as goal

pub lower_exprs-returns : goal.lower_exprs-returns
lower_exprs-returns t c =
    exprs_at_end c.args.exprs.now c.loop-expr.all.items c.loop-expr.expr-index (omega (arith, c.loop-expr-test.false)) c.loop-expr.invariant

pub lower_bodies-returns : goal.lower_bodies-returns
lower_bodies-returns t c =
    bodies_at_end c.args.arms.now c.loop-arm.all.items c.loop-arm.arm-index (omega (arith, c.loop-arm-test.false)) c.loop-arm.invariant

pub lower_expr-returns-in_ok-bodies-in-Match : goal.lower_expr-returns-in_ok-bodies-in-Match
lower_expr-returns-in_ok-bodies-in-Match t c =
    let m = c.in-Match in
    let bodies = c.in_ok-bodies-in-Match.bodies.items in
    let same : expr_tree c.args.expr.now ≡ expr_match m.number m.scope.items (expr_tree m.of.value) (match_arm_trees m.arms.items) =
    search (rules, the_lemmas) in
    let value : expr_tree c.in_ok-of-in-Match.of.value ≡ lowered (expr_tree m.of.value) = search rules in
    let made : map expr_tree bodies ≡ bodies_lowered (match_arm_trees m.arms.items) = search rules in
    let form =
    subst (λ s. IfOk c.match_form.result (λ e. expr_tree e ≡ match_of m.number s (expr_tree c.in_ok-of-in-Match.of.value) (match_arm_trees m.arms.items)
    (map expr_tree bodies)))
    c.deref-in-Match-3.ensures.value
    (subst (λ a. IfOk c.match_form.result (λ e. expr_tree e ≡ match_of m.number c.deref-in-Match-3.result.now (expr_tree c.in_ok-of-in-Match.of.value)
    (match_arm_trees a) (map expr_tree bodies)))
    c.deref-in-Match-4.ensures.value c.match_form.ensures) in
    subst (λ v. IfOk c.match_form.result (λ e. expr_tree e ≡ lowered v)) (sym same)
    (match_lowered c.match_form.result m.number m.scope.items (expr_tree m.of.value) (expr_tree c.in_ok-of-in-Match.of.value) (match_arm_trees m.arms.items)
    (map expr_tree bodies)
    value made form)
