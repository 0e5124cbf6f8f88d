-- What Euclid's steps leave is what `IsBezout` says.
use Rattle.std.proofs.Common.{◌≡◌, ◌≢◌, ℤ, pos, ◌+ℤ◌, ◌-ℤ◌, ◌*ℤ◌, ◌+◌, ◌*◌, ◌≤◌, ◌⊎◌, Bool, true, false, ℕ, zero, suc, arith, sym, inl, inr, ap, ⊎_elim, subst}
use Rattle.std.specs.Prelude.{◌≤ℤ◌, ◌<ℤ◌}
use Rattle.std.specs.Int.{IsGcd, ◌∣◌}
use Rattle.std.proofs.Math.Nat.{dvd-mul_left, dvd-mul_left_of_dvd, dvd-add_iff_left, mul-le-mul_right}
use Rattle.std.proofs.lemmas.Int.{ints}
use Rattle.cf_num.specs.Parts.{IsBezout}
use Rattle.cf_num.specs.Steps.{Step}
use Rattle.cf_num.proofs.Ring.{mul_comm_z, ring}
use Rattle.cf_num.proofs.Orders.{mul-lt_z}

divisor_is : (a b x n m u v : ℕ) → n * x ≡ b → m * x ≡ a → (x + v * b ≡ u * a) ⊎ (x + u * a ≡ v * b) → IsGcd a b x
divisor_is a b x n m u v p q h = (
  subst (λ z. x ∣ z) q (dvd-mul_left x m),
  subst (λ z. x ∣ z) p (dvd-mul_left x n),
  λ d da db.
      ⊎_elim (λ e. (dvd-add_iff_left d (dvd-mul_left_of_dvd d db v)).1 (subst (λ z. d ∣ z) (sym e) (dvd-mul_left_of_dvd d da u)))
      (λ e. (dvd-add_iff_left d (dvd-mul_left_of_dvd d da u)).1 (subst (λ z. d ∣ z) (sym e) (dvd-mul_left_of_dvd d db v))) h,
)

IsBezout-from : (a b x n m u v : ℕ) → n * x ≡ b → m * x ≡ a → 1 ≤ x → (x + v * b ≡ u * a) ⊎ (x + u * a ≡ v * b) →
    (g s t : ℤ) → g ≡ pos x → s *ℤ pos a +ℤ t *ℤ pos b ≡ pos x → pos 0 ≤ℤ s → s <ℤ pos n → IsBezout (pos a) (pos b) (record { g = g; s = s; t = t })
IsBezout-from a b x n m u v p q some h g s t gx sum low high =
    record {
      sum = omega (arith, ints);
      low = low;
      high = rw gx (let big = mul-lt_z (pos x) s (pos n) (omega (arith, ints)) high in omega (arith, ints, mul_comm_z s (pos x)));
      positive = omega (arith, ints);
      divisor = rw gx (divisor_is a b x n m u v p q h);
    }

-- the multiples of a and b by the other's part are one
crossed : (a b x n m : ℕ) → n * x ≡ b → m * x ≡ a → n * a ≡ m * b
crossed a b x n m p q = omega (arith, ap (λ z. m * z) p, ap (λ z. n * z) q)

some_part : (n x b : ℕ) → n * x ≡ b → 1 ≤ b → 1 ≤ n
some_part zero x b p h = absurd (omega arith)
some_part (suc n) x b p h = omega arith

low_order : (u n y x : ℕ) → 1 ≤ n → ((u ≤ n) × (y ≤ x)) ⊎ (n ≡ 0) → u ≤ n
low_order u n y x h o = ⊎_elim (λ p. p.0) (λ p. absurd (omega arith)) o

module _ (a b x u n v m : ℕ) (g s t : ℤ) (gx : g ≡ pos x) (b_some : 1 ≤ b) where
  pub even_all : Step a b true x 0 u n v m → u ≡ n → s ≡ pos 0 → t ≡ pos m -ℤ pos v → IsBezout (pos a) (pos b) (record { g = g; s = s; t = t })
  even_all h un s_is t_is =
      let p : n * x ≡ b = omega (arith, h.b_is) in
      let q : m * x ≡ a = omega (arith, h.a_is) in
      let k = some_part n x b p b_some in
      let e : x + v * b ≡ n * a = rw un at h.signs.0 in
      IsBezout-from a b x n m u v p q h.some (inl h.signs.0) g s t gx (rw (s_is, t_is) (simp ring (omega (arith, ints, crossed a b x n m p q))))
      (omega (arith, ints)) (omega (arith, ints))

  pub even_part : Step a b true x 0 u n v m → u ≢ n → s ≡ pos u → t ≡ pos 0 -ℤ pos v → IsBezout (pos a) (pos b) (record { g = g; s = s; t = t })
  even_part h un s_is t_is =
      let p : n * x ≡ b = omega (arith, h.b_is) in
      let q : m * x ≡ a = omega (arith, h.a_is) in
      let k = some_part n x b p b_some in
      let o = low_order u n 0 x k h.order in
      let e = h.signs.0 in
      IsBezout-from a b x n m u v p q h.some (inl e) g s t gx (rw (s_is, t_is) (simp ring (omega (arith, ints)))) (omega (arith, ints)) (omega (arith, ints))

  pub odd_none : Step a b false x 0 u n v m → u ≡ 0 → s ≡ pos 0 → t ≡ pos v → IsBezout (pos a) (pos b) (record { g = g; s = s; t = t })
  odd_none h un s_is t_is =
      let p : n * x ≡ b = omega (arith, h.b_is) in
      let q : m * x ≡ a = omega (arith, h.a_is) in
      let k = some_part n x b p b_some in
      let e : x + 0 * a ≡ v * b = rw un at h.signs.0 in
      IsBezout-from a b x n m u v p q h.some (inr h.signs.0) g s t gx (rw (s_is, t_is) (omega (arith, ints))) (omega (arith, ints)) (omega (arith, ints))

  pub odd_part : Step a b false x 0 u n v m → u ≢ 0 → s ≡ pos n -ℤ pos u → t ≡ pos v -ℤ pos m → IsBezout (pos a) (pos b) (record { g = g; s = s; t = t })
  odd_part h un s_is t_is =
      let p : n * x ≡ b = omega (arith, h.b_is) in
      let q : m * x ≡ a = omega (arith, h.a_is) in
      let k = some_part n x b p b_some in
      let o = low_order u n 0 x k h.order in
      let e = h.signs.0 in
      IsBezout-from a b x n m u v p q h.some (inr e) g s t gx (rw (s_is, t_is) (simp ring (omega (arith, ints, crossed a b x n m p q)))) (omega (arith, ints))
      (omega (arith, ints))

-- the last of Euclid's numbers is at most b
pub last_low : (a b : ℕ) (even : Bool) (x y u n v m : ℕ) → 1 ≤ b → y ≡ 0 → Step a b even x y u n v m → x ≤ b
last_low a b even x y u n v m some y_is h =
    let p : n * x ≡ b = omega (arith, h.b_is, ap (λ z. u * z) y_is) in
    omega (arith, mul-le-mul_right x (some_part n x b p some))

-- a product of casts
pub times_is : (n g x : ℕ) (n' g' : ℤ) → n' ≡ pos n → g' ≡ pos g → n * g ≡ x → n' *ℤ g' ≡ pos x
times_is n g x n' g' p q e = rw (p, q) (omega (arith, ints))
