-- A disjunction whose right side does not hold.
use Rattle.std.proofs.Common.{◌≡◌, Bool, true, false, refl}
use Rattle.std.specs.Prelude.{◌||◌}

pub or_false : (b : Bool) → b ≡ (b || false)
or_false true = refl
or_false false = refl
