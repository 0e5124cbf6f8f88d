-- The value of a run of digits.
use Rattle.std.specs.Prelude.{ℕ, ◌+◌, ◌*◌, ◌-◌, List, [], ◌∷◌, Option, Some, None, nat_le, if◌then◌else◌}

-- the value of more digits behind those of a number
abbrev pub value_from : ℕ → List ℕ → ℕ
value_from n [] = n
value_from n (b ∷ digits) = value_from (n * 10 + (b - 48)) digits

-- the value of digits in decimal
abbrev pub digits_value : List ℕ → ℕ
digits_value digits = value_from 0 digits

-- the number, or none where it passes the limit
abbrev pub at_most : ℕ → ℕ → Option ℕ
at_most limit n = if nat_le n limit then Some n else None
