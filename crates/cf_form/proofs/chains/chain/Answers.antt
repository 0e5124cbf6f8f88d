use Rattle.cf_tree.specs.ExprView.{expr_tree}
use Rattle.cf_form.specs.Formed.{chain_body}
use Rattle.cf_form.proofs.ChainSteps.{bound_parts}
use Rattle.cf_form.proofs.chains.chain.Goals as goal

pub returns-in-Ok : goal.returns-in-Ok
returns-in-Ok c =
    bound_parts c.let_tuple.result c.args.parts.items (expr_tree c.in-Ok.body.value) (chain_body c.args.s c.args.orders.now) c.let_tuple.ensures c.in-Ok.ensures
