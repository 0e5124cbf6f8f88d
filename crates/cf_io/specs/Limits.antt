-- The limits of the input.
use Rattle.std.specs.Prelude.{ℕ, ◌<◌, ◌≤◌, Bool, true, nat_le, Option, Some, None}
use Rattle.cf_io.specs.declared.limits.TheConstants.{LINE_LIMIT, INPUT_LIMIT}

-- the most bytes of a line, without its end
unfoldable pub line_limit : ℕ
line_limit = LINE_LIMIT

-- the most bytes of the input
unfoldable pub input_limit : ℕ
input_limit = INPUT_LIMIT

-- ---- a limit, or none
-- so many are within it
abbrev pub is_within : Option ℕ → ℕ → Bool
is_within None count = true
is_within (Some most) count = nat_le count most

abbrev pub IsWithin : Option ℕ → ℕ → Type 0
IsWithin None count = Unit {0}
IsWithin (Some most) count = count ≤ most

-- so many are past it
abbrev pub IsPast : Option ℕ → ℕ → Type 0
IsPast None count = ⊥
IsPast (Some most) count = most < count
