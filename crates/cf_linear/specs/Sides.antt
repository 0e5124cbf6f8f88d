-- The sides of bounds.
use Rattle.std.specs.Prelude.{ℤ, pos, int_lt, Bool, true, false, if◌then◌else◌}
use Rattle.cf_linear.specs.declared.side.Side.{Side}
use Rattle.cf_linear.specs.declared.side.Side.TheVariants.{Lower, Upper}
use Rattle.cf_linear.specs.Steps.{is_positive}

abbrev pub is_lower : Side → Bool
is_lower Lower = true
is_lower Upper = false

-- a coefficient of a lower bound, or of an upper one
abbrev pub is_side : Bool → ℤ → Bool
is_side lower k = (if lower then is_positive k else int_lt k (pos 0))
