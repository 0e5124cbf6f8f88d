-- The greatest common divisor of two numbers with factors that make it of them.
use Rattle.std.specs.Prelude.{◌≡◌, ℤ, pos, negsuc, ◌+ℤ◌, ◌-ℤ◌, ◌*ℤ◌, ◌≤ℤ◌, ◌<ℤ◌, ◌/◌, unsigned_abs}
use Rattle.std.specs.Int.{IsGcd, int_div_euclid, int_rem_euclid}
use Rattle.cf_num.specs.declared.GcdParts.{GcdParts}
use Rattle.cf_num.specs.Divisors.{gcd_of, factors_by}

-- g is the greatest common divisor of a and b, s and t make it of them, and s is at least 0 and below |b| / g
pub record IsBezout (a b : ℤ) (p : GcdParts) : Type 0 where
  pub sum : p.s *ℤ a +ℤ p.t *ℤ b ≡ p.g
  pub low : pos 0 ≤ℤ p.s
  pub high : (p.s *ℤ p.g) <ℤ pos (unsigned_abs b)
  pub positive : pos 0 <ℤ p.g
  pub divisor : IsGcd (unsigned_abs a) (unsigned_abs b) (unsigned_abs p.g)

abbrev pub sign_of : ℤ → ℤ
sign_of (pos n) = pos 1
sign_of (negsuc n) = negsuc 0

-- the one g, s and t with IsBezout a b, for a and b other than 0
unfoldable pub parts_of : ℤ → ℤ → GcdParts
parts_of a b =
    let g = gcd_of (unsigned_abs a) (unsigned_abs b) in
    let f = factors_by (unsigned_abs b) (unsigned_abs a) (unsigned_abs b) in
    let s = int_rem_euclid (sign_of a *ℤ f.0) (pos (unsigned_abs b / g)) in
    record { g = pos g; s = s; t = int_div_euclid (pos g -ℤ s *ℤ a) b }
