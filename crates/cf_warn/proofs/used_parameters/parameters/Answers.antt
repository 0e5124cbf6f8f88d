use Rattle.std.proofs.Common.{◌≡◌, IfOk, subst}
use Rattle.cf_tree.specs.RelView.{rel_tree}
use Rattle.cf_linear.specs.Views.{plain_layout}
use Rattle.cf_warn.proofs.ParameterLaws.{parameters_are}
use Rattle.cf_warn.proofs.used_parameters.parameters.Goals as goal

pub returns : goal.returns
returns c =
    let s = c.args.solved.now in
    subst (λ xs. IfOk c.listed.result (λ v. v.items ≡ xs))
    (parameters_are s.scope.items s.outputs.items (rel_tree s.rel) (plain_layout c.layout.result.now) c.layout.ensures.solved.typed c.layout.ensures.levels)
    c.listed.ensures
