use Rattle.std.proofs.Common.{rules, ◌≡◌, sym, ◌∙◌}
use Rattle.cf_type.proofs.ConstantLemmas.{constant_is}
use Rattle.cf_type.proofs.constants.Constants.find.Goals as goal

pub returns : goal.returns
returns c =
    let named : c.args.name.now ≡ c.as_slice.result.now = search rules in
    rw (← c.self.view_is, named) (c.copied.ensures ∙ c.get.ensures.value ∙ sym (constant_is c.self.inside.values.entries c.as_slice.result.now))
