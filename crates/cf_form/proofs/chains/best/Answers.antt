use Rattle.std.proofs.Common.{◌≡◌, ◌∙◌, sym, ap}
use Rattle.cf_tree.specs.ExprView.{expr_tree, expr_trees}
use Rattle.cf_form.specs.Formed.{best_body, how_many}
use Rattle.cf_form.proofs.ChainSteps.{bound_parts}
use Rattle.cf_form.proofs.FormSteps.{counts_are}
use Rattle.cf_form.proofs.chains.best.Goals as goal

pub returns-in-Ok : goal.returns-in-Ok
returns-in-Ok c =
    let es = c.args.parts.items in
    let count : c.len.result ≡ how_many (expr_trees es) = c.len.ensures ∙ c.args.parts.ok.0 ∙ sym (counts_are es) in
    bound_parts c.let_tuple.result es (expr_tree c.in-Ok.body.value) (best_body c.args.order c.args.s (how_many (expr_trees es))) c.let_tuple.ensures
    (c.in-Ok.ensures ∙ ap (λ n. best_body c.args.order c.args.s n) count)
