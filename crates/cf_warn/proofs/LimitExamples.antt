-- The limit of the question whether outputs always exist, as a number.
use Rattle.std.proofs.Common.{◌≡◌, refl}
use Rattle.cf_warn.specs.declared.no_outputs.TheConstants.{MOST_TUPLES}

most-tuples : MOST_TUPLES ≡ 1000
most-tuples = refl
