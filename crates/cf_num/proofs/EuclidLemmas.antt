-- The invariant of Euclid's steps with factors.
use Rattle.std.proofs.Common.{◌≡◌, ◌+◌, ◌*◌, ◌≤◌, ◌<◌, ◌/◌, ◌%◌, ◌⊎◌, Bool, true, false, not, ℕ, zero, suc, arith, inl, ap, ⊎_elim}
use Rattle.std.specs.Int.{IsGcd}
use Rattle.cf_num.specs.Steps.{Signs, Step}
use Rattle.std.proofs.Math.Nat.{mul-le-mul_left, div-add-mod, mod-lt, le_of_dvd, eq-zero_of_zero-dvd, dvd-zero}

-- a divisor of two numbers below m, where it is their greatest, is below m
pub below_from_IsGcd : (a b g m : ℕ) → IsGcd a b g → a < m → b < m → g < m
below_from_IsGcd zero zero g m h p q = let e = eq-zero_of_zero-dvd (h.2 0 (dvd-zero 0) (dvd-zero 0)) in omega arith
below_from_IsGcd (suc a) b g m h p q = let e = le_of_dvd (let z : 0 < suc a = omega arith in z) h.0 in omega arith
below_from_IsGcd zero (suc b) g m h p q = let e = le_of_dvd (let z : 0 < suc b = omega arith in z) h.1 in omega arith

signs-step : (even : Bool) (a b x y q r u0 u1 v0 v1 : ℕ) → y * q + r ≡ x → Signs even a b x y u0 u1 v0 v1 →
    Signs (not even) a b y r u1 (u0 + q * u1) v1 (v0 + q * v1)
signs-step true a b x y q r u0 u1 v0 v1 e h = (h.1, omega (arith, h.0, ap (λ z. z * q) h.1))
signs-step false a b x y q r u0 u1 v0 v1 e h = (h.1, omega (arith, h.0, ap (λ z. z * q) h.1))

order-step : (x y q r u0 u1 : ℕ) → y * q + r ≡ x → r < y → ((u0 ≤ u1) × (y ≤ x)) ⊎ (u1 ≡ 0) → ((u1 ≤ u0 + q * u1) × (r ≤ y)) ⊎ (u0 + q * u1 ≡ 0)
order-step x y zero r u0 u1 e s h = ⊎_elim (λ p. absurd (omega arith)) (λ p. inl (omega arith)) h
order-step x y (suc q) r u0 u1 e s h = inl (omega arith)

pub Step-next : (a b : ℕ) (even : Bool) (x y u0 u1 v0 v1 : ℕ) → 0 < y → Step a b even x y u0 u1 v0 v1 →
    Step a b (not even) y (x % y) u1 (u0 + x / y * u1) v1 (v0 + x / y * v1)
Step-next a b even x y u0 u1 v0 v1 p h =
    let d = div-add-mod x y in
    let s = mod-lt x p in
    let xs : 1 ≤ x = h.some in
    record {
      signs = signs-step even a b x y (x / y) (x % y) u0 u1 v0 v1 d h.signs;
      some = p;
      b_is = omega (arith, h.b_is, ap (λ z. u1 * z) d);
      a_is = omega (arith, h.a_is, ap (λ z. v1 * z) d);
      u_low = omega (arith, h.b_is, mul-le-mul_left u1 xs);
      v_low = omega (arith, h.a_is, mul-le-mul_left v1 xs);
      order = order-step x y (x / y) (x % y) u0 u1 d s h.order;
    }

-- the last factors are at most b and a
pub Step-bounds : (a b : ℕ) (even : Bool) (x y u0 u1 v0 v1 : ℕ) → Step a b even x y u0 u1 v0 v1 → (u1 ≤ b) × (v1 ≤ a)
Step-bounds a b even x y u0 u1 v0 v1 h =
    let some : 1 ≤ x = h.some in
    (omega (arith, h.b_is, mul-le-mul_left u1 some), omega (arith, h.a_is, mul-le-mul_left v1 some))
