-- Greatest common divisors, and the factors that make them.
use Rattle.std.specs.Prelude.{ℕ, zero, suc, ◌/◌, ◌%◌, ℤ, pos, ◌-ℤ◌, ◌*ℤ◌}

-- Euclid's steps, at most n of them
unfoldable pub gcd_by : ℕ → ℕ → ℕ → ℕ
gcd_by zero a b = a
gcd_by (suc n) a zero = a
gcd_by (suc n) a (suc b) = gcd_by n (suc b) (a % suc b)

-- the greatest common divisor, 0 for two zeros
abbrev pub gcd_of : ℕ → ℕ → ℕ
gcd_of a b = gcd_by b a b

-- the factors of a and b that make it
unfoldable pub factors_by : ℕ → ℕ → ℕ → ℤ × ℤ
factors_by zero a b = (pos 1, pos 0)
factors_by (suc n) a zero = (pos 1, pos 0)
factors_by (suc n) a (suc b) = let f = factors_by n (suc b) (a % suc b) in (f.1, f.0 -ℤ pos (a / suc b) *ℤ f.1)
