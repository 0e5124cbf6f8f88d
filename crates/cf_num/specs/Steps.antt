-- What the private calls of `bezout` keep: Euclid's steps, and the parts of numbers of other signs.
use Rattle.std.specs.Prelude.{◌≡◌, ◌≢◌, ℕ, ◌+◌, ◌*◌, ◌≤◌, ◌^◌, ◌⊎◌, pos, ◌+ℤ◌, ◌-ℤ◌, ◌≤ℤ◌, ◌<ℤ◌, Bool, true, false, cond, ◌==◌, unsigned_abs}
use Rattle.cf_num.specs.declared.GcdParts.{GcdParts}
use Rattle.cf_num.specs.declared.Positive.{Positive}

-- x is u0 * a - v0 * b and y is v1 * b - u1 * a, or the other way round
abbrev pub Signs : Bool → ℕ → ℕ → ℕ → ℕ → ℕ → ℕ → ℕ → ℕ → Type 0
Signs true a b x y u0 u1 v0 v1 = (x + v0 * b ≡ u0 * a) × (y + u1 * a ≡ v1 * b)
Signs false a b x y u0 u1 v0 v1 = (x + u0 * a ≡ v0 * b) × (y + v1 * b ≡ u1 * a)

pub record Step (a b : ℕ) (even : Bool) (x y u0 u1 v0 v1 : ℕ) : Type 0 where
  pub signs : Signs even a b x y u0 u1 v0 v1
  pub some : 1 ≤ x
  pub b_is : u0 * y + u1 * x ≡ b
  pub a_is : v0 * y + v1 * x ≡ a
  pub u_low : u0 ≤ b
  pub v_low : v0 ≤ a
  pub order : ((u0 ≤ u1) × (y ≤ x)) ⊎ (u1 ≡ 0)

-- the new factors fit
pub record FirstSmall (p : Positive) : Type 0 where
  pub s_low : pos 0 ≤ℤ p.parts.s
  pub s_high : p.parts.s ≤ℤ p.n
  pub n_high : p.n <ℤ pos (2 ^ 127)
  pub t_low : pos 0 ≤ℤ (p.parts.t +ℤ p.m)
  pub t_high : p.parts.s ≢ pos 0 → p.parts.t ≤ℤ pos 0
  pub m_high : p.m <ℤ pos (2 ^ 127)

abbrev pub first_turned_of : Bool → Positive → GcdParts
first_turned_of false p = p.parts
first_turned_of true p = cond (unsigned_abs p.parts.s == 0) p.parts (record { g = p.parts.g; s = p.n -ℤ p.parts.s; t = p.parts.t +ℤ p.m })
