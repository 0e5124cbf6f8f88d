-- The limits of the input as numbers.
use Rattle.std.proofs.Common.{◌≡◌, true, false, Some, None, refl, arith}
use Rattle.cf_io.specs.Limits.{line_limit, input_limit, is_within, IsWithin, IsPast}

-- 64 KiB of a line
most-of_a_line : line_limit ≡ 65536
unfolding line_limit
most-of_a_line = refl

-- 16 MiB of the input
most-of_the_input : input_limit ≡ 16777216
unfolding input_limit
most-of_the_input = refl

-- ---- a limit, or none
tested : (is_within (Some 3) 3 ≡ true) × (is_within (Some 3) 4 ≡ false) × (is_within None 4 ≡ true)
tested = (refl, refl, refl)

within-and_past : IsWithin (Some 3) 3 × (IsWithin (Some 3) 4 → ⊥) × IsWithin None 4 × IsPast (Some 3) 4 × (IsPast (Some 3) 3 → ⊥) × (IsPast None 4 → ⊥)
within-and_past = (omega arith, (λ h. omega (arith, h)), tt, omega arith, (λ h. omega (arith, h)), (λ h. h))
