use Rattle.std.proofs.Common.{rules, ◌≡◌}
use Rattle.cf_type.proofs.ConstantLemmas.{is_constant}
use Rattle.cf_type.proofs.constants.Constants.is_named.Goals as goal

pub returns : goal.returns
returns c =
    let named : c.args.name.now ≡ c.as_slice.result.now = search rules in
    rw (← c.self.view_is, named) (is_constant c.self.inside.values.entries c.as_slice.result.now c.contains_key.result c.contains_key.ensures)
