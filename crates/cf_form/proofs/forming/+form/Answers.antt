use Rattle.std.proofs.Common.{map, arith}
use Rattle.cf_tree.specs.DefView.{def_tree}
use Rattle.cf_tree.specs.ExprView.{expr_trees}
use Rattle.cf_form.specs.Unfolding.{calls_of}
use Rattle.cf_form.proofs.FormSteps.{exprs_at_end, arms_at_end, chain_is, best_is}
use Rattle.cf_form.proofs.forming.+form.Goals as goal

pub form_all-returns : goal.form_all-returns
form_all-returns t c =
    exprs_at_end (calls_of (map def_tree c.args.around.now.before.now)) c.args.s c.args.exprs.now c.loop-expr.all.items c.loop-expr.expr-index
    (omega (arith, c.loop-expr-test.false)) c.loop-expr.invariant

pub form_arms-returns : goal.form_arms-returns
form_arms-returns t c =
    arms_at_end (calls_of (map def_tree c.args.around.now.before.now)) c.args.s c.args.arms.now c.loop-arm.all.items c.loop-arm.arm-index
    (omega (arith, c.loop-arm-test.false)) c.loop-arm.invariant

pub form_chain-returns : goal.form_chain-returns
form_chain-returns t c =
    chain_is c.chain.result (calls_of (map def_tree c.args.around.now.before.now)) c.args.s c.args.orders.now (expr_trees c.args.exprs.now)
    (expr_trees c.in_ok-parts.parts.items) c.in_ok-parts.ensures c.chain.ensures

pub form_best-returns : goal.form_best-returns
form_best-returns t c =
    best_is c.best.result (calls_of (map def_tree c.args.around.now.before.now)) c.args.s c.args.order (expr_trees c.args.exprs.now)
    (expr_trees c.in_ok-parts.parts.items) c.in_ok-parts.ensures c.best.ensures
