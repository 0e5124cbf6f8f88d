use Rattle.std.proofs.Common.{◌≡◌, ◌∙◌, IfOk, subst}
use Rattle.cf_print_term.specs.TermView.{term_tree}
use Rattle.cf_print_term.proofs.TermLists.{next_term, last_term, called_all, filled, sum_of_two, sum_called, sum_by_parts, none_summed}
use Rattle.cf_print_term.proofs.expression.+term_of.Goals as goal

pub over_all-returns-in_ok-terms-in-Called : goal.over_all-returns-in_ok-terms-in-Called
over_all-returns-in_ok-terms-in-Called t c =
    c.call_on_all.ensures ∙ called_all c.args.walk.now.table.now c.args.walk.now.scope.now c.args.form.now c.in-Called.call c.args.parts.now _ c.in-Called.is
    c.in-len2-up.len_at_least c.in_ok-terms-in-Called.ensures

pub set_of-returns-in_ok-terms-in_default : goal.set_of-returns-in_ok-terms-in_default
set_of-returns-in_ok-terms-in_default t c =
    c.call_on_all.ensures ∙ filled c.args.walk.now.table.now c.args.walk.now.scope.now c.args.parts.now _ c.in_default.len_at_least
    c.in_ok-terms-in_default.ensures

pub terms-loop-code-preserved : goal.terms-loop-code-preserved
terms-loop-code-preserved t c =
    next_term c.args.walk.now.table.now c.args.walk.now.scope.now c.args.codes.now c.loop-code.code-index _ c.loop-code.all.items
    c.push.new.self.items _ _ c.loop-code-test.true c.code-item.is c.in_ok-push.ensures.items c.in_ok-term_of.ensures c.loop-code.invariant

pub terms-returns : goal.terms-returns
terms-returns t c =
    last_term c.args.walk.now.table.now c.args.walk.now.scope.now c.args.codes.now c.loop-code.code-index c.loop-code.all.items _
    c.loop-code-test.false c.loop-code.invariant

pub sum-returns-in-len2 : goal.sum-returns-in-len2
sum-returns-in-len2 t c =
    subst (λ u. IfOk c.two_summed.result (λ x. term_tree x ≡ u))
    (sum_of_two c.args.walk.now.table.now c.args.walk.now.scope.now c.args.passes _ c.args.parts.now c.in-len2.len_at_least c.in-len2.len_below)
    c.two_summed.ensures

pub sum-returns-then-passes : goal.sum-returns-then-passes
sum-returns-then-passes t c =
    subst (λ u. IfOk c.sum_by_call.result (λ x. term_tree x ≡ u))
    (sum_called c.args.walk.now.table.now c.args.walk.now.scope.now c.args.passes _ c.args.parts.now c.if-passes.true c.in-len3-up.len_at_least)
    c.sum_by_call.ensures

pub sum-returns-in_ok-start-in-len3-up : goal.sum-returns-in_ok-start-in-len3-up
sum-returns-in_ok-start-in-len3-up t c =
    subst (λ u. IfOk c.sum_behind.result (λ x. term_tree x ≡ u))
    (sum_by_parts c.args.walk.now.table.now c.args.walk.now.scope.now c.args.passes _ c.args.parts.now (term_tree c.in_ok-start-in-len3-up.start)
    c.if-passes.false c.in-len3-up.len_at_least c.in_ok-start-in-len3-up.ensures)
    c.sum_behind.ensures

pub two_summed-returns-in_default : goal.two_summed-returns-in_default
two_summed-returns-in_default t c =
    subst (λ u. IfOk c.word.result (λ x. term_tree x ≡ u))
    (none_summed c.args.walk.now.table.now c.args.walk.now.scope.now c.args.passes c.args.parts.now c.in_default.len_below)
    c.word.ensures
