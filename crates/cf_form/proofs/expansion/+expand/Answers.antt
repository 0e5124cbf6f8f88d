use Rattle.std.proofs.Common.{rules, ◌≡◌, ◌≤◌, ◌∙◌, [], length, map, sym, ap, arith}
use Rattle.std.proofs.lemmas.Result.{IfOk-weaker}
use Rattle.cf_tree.specs.DefView.{def_tree}
use Rattle.cf_form.specs.Unfolding.{calls_of}
use Rattle.cf_form.specs.WideView.{part}
use Rattle.cf_form.proofs.Callees.{callee_falls, callee_none, callee_parts}
use Rattle.cf_form.proofs.Unfolded.{exprs_at_end}
use Rattle.cf_form.proofs.expansion.+expand.Goals as goal

pub expand_all-returns : goal.expand_all-returns
expand_all-returns t c =
    exprs_at_end (calls_of (map def_tree c.args.before.now)) (map part c.args.env.now) c.args.exprs.now (map part c.loop-expr.all.items) c.loop-expr.expr-index
    (omega (arith, c.loop-expr-test.false)) c.loop-expr.invariant

pub call-expand-requires : goal.call-expand-requires
call-expand-requires t c =
    let found = c.in-Some.ensures.lookup in
    let falls = callee_falls c.args.before.now c.args.number c.in-Some.def.now found.3.0 found.1 in
    omega (arith, c.decreases, falls)

pub call-returns-in-Some : goal.call-returns-in-Some
call-returns-in-Some t c =
    let found = c.in-Some.ensures.lookup in
    IfOk-weaker c.expand.result _ _
    (λ ps h. h ∙ sym (callee_parts c.args.before.now c.args.number c.in-Some.def.now found.3.0 found.1 (map part c.args.args.now))) c.expand.ensures

pub call-returns-in-None : goal.call-returns-in-None
call-returns-in-None t c =
    let past : length c.args.before.now ≤ c.args.number = c.in-None.ensures.lookup.3 in
    let empty : c.new.result.items ≡ [] = search rules in
    ap (map part) empty ∙ sym (callee_none c.args.before.now c.args.number (map part c.args.args.now) past)
