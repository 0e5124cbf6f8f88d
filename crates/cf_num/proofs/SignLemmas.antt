-- The parts of numbers of other signs.
use Rattle.std.proofs.Common.{◌≡◌, ◌≢◌, ℤ, pos, negsuc, neg_ℤ, ◌+ℤ◌, ◌-ℤ◌, ◌*ℤ◌, ◌≤◌, ◌<◌, ℕ, zero, suc, arith, refl, ⊎_elim}
use Rattle.std.specs.Prelude.{◌≤ℤ◌, ◌<ℤ◌, unsigned_abs}
use Rattle.std.specs.Int.{◌∣◌}
use Rattle.std.proofs.Math.Nat.{le_of_dvd}
use Rattle.std.proofs.lemmas.Int.{ints}
use Rattle.cf_num.specs.declared.GcdParts.{GcdParts}
use Rattle.cf_num.specs.declared.Positive.{Positive}
use Rattle.cf_num.specs.Parts.{IsBezout}
use Rattle.cf_num.specs.Steps.{FirstSmall, first_turned_of}
use Rattle.std.proofs.Common.{◌^◌, Bool, true, false, ◌==◌}
use Rattle.std.proofs.lemmas.Bool.{cond_both, eqb-true, eqb-false}
use Rattle.cf_num.proofs.Ring.{ring, mul_comm_z}
use Rattle.cf_num.proofs.Orders.{mul-le_z, mul-lt_z, lt-mul_cancel_z, le-mul_cancel_z, le_or_lt_z}

-- the positive g is at most b, and s is below b
pub g_low : (a : ℤ) (b : ℕ) (p : GcdParts) → 1 ≤ b → IsBezout a (pos b) p → p.g ≤ℤ pos b
g_low a b p h i = by p.g i.positive i.divisor.1
  where
    by : (g : ℤ) → pos 0 <ℤ g → unsigned_abs g ∣ b → g ≤ℤ pos b
    by (pos n) k d = omega (arith, ints, le_of_dvd h d)
    by (negsuc n) k d = absurd (omega (arith, ints))

pub s_low : (a : ℤ) (b : ℕ) (p : GcdParts) → IsBezout a (pos b) p → p.s <ℤ pos b
s_low a b p i =
    let one : pos 1 ≤ℤ p.g = let k = i.positive in omega (arith, ints) in
    let m = mul-le_z p.s (pos 1) p.g i.low one in
    let h = i.high in omega (arith, ints)

-- the factor t is at most a in absolute value
pub t_low : (a b : ℕ) (p : GcdParts) → 1 ≤ a → 1 ≤ b → IsBezout (pos a) (pos b) p → (pos 0 ≤ℤ (p.t +ℤ pos a)) × (p.t ≤ℤ pos 1)
t_low a b p ha hb i =
    let g = g_low (pos a) b p hb i in
    let s = s_low (pos a) b p i in
    let e = i.sum in
    let low = i.low in
    let sa = mul-le_z (pos a) (pos 0) p.s (omega (arith, ints)) low in
    let sb = mul-le_z (pos a) p.s (pos b) (omega (arith, ints)) (omega (arith, ints)) in
    let up : p.t ≤ℤ pos 1 = le-mul_cancel_z (pos b) p.t (pos 1) (omega (arith, ints)) (omega (arith, ints, mul_comm_z p.t (pos b), mul_comm_z p.s (pos a))) in
    let pg = i.positive in
    let down : neg_ℤ (pos a) ≤ℤ p.t = le-mul_cancel_z (pos b) (neg_ℤ (pos a)) p.t (omega (arith, ints))
    (simp ring (omega (arith, ints, mul_comm_z p.t (pos b), mul_comm_z p.s (pos a), mul_comm_z (pos a) (pos b)))) in
    (omega (arith, ints), up)

abs-neg : (a : ℤ) → unsigned_abs (neg_ℤ a) ≡ unsigned_abs a
abs-neg (pos zero) = refl
abs-neg (pos (suc n)) = refl
abs-neg (negsuc n) = refl

module _ (a b : ℕ) (p : Positive) (a_some : 1 ≤ a) (b_some : 1 ≤ b) (i : IsBezout (pos a) (pos b) p.parts) (n_is : p.n *ℤ p.parts.g ≡ pos b)
    (m_is : p.m *ℤ p.parts.g ≡ pos a) where
  pub s_high : p.parts.s <ℤ p.n
  s_high = let h = i.high in lt-mul_cancel_z p.parts.g p.parts.s p.n i.positive (omega (arith, ints, mul_comm_z p.parts.s p.parts.g, mul_comm_z p.n p.parts.g))

  pub times_n : p.n *ℤ pos a ≡ p.m *ℤ pos b
  times_n = rw (← n_is, ← m_is) (simp ring refl)

  -- t is at least -m
  pub t_down : pos 0 ≤ℤ (p.parts.t +ℤ p.m)
  t_down =
      let e = i.sum in
      let g = i.positive in
      let l = s_high in
      let k = mul-le_z (pos a) p.parts.s p.n (omega (arith, ints)) (omega (arith, ints)) in
      let u = times_n in
      let h : (pos b *ℤ neg_ℤ p.m) ≤ℤ (pos b *ℤ p.parts.t) = simp ring (let z = simp ring at e in let u' = simp ring at u in omega (arith, ints)) in
      let w = le-mul_cancel_z (pos b) (neg_ℤ p.m) p.parts.t (omega (arith, ints)) h in
      omega (arith, ints)

  pub turned_is : IsBezout (neg_ℤ (pos a)) (pos b) (first_turned_of true p)
  turned_is = cond_both (unsigned_abs p.parts.s == 0) p.parts (record { g = p.parts.g; s = p.n -ℤ p.parts.s; t = p.parts.t +ℤ p.m })
      (λ x. IsBezout (neg_ℤ (pos a)) (pos b) x)
      (λ e. let z = eqb-true (unsigned_abs p.parts.s) 0 e in let sum = i.sum in
      let s0 : p.parts.s ≡ pos 0 = omega (arith, ints) in
      record {
        sum = rw s0 (let y = rw s0 at sum in omega (arith, ints));
        low = i.low;
        high = i.high;
        positive = i.positive;
        divisor = rw (abs-neg (pos a)) i.divisor;
      })
      (λ e. let z = eqb-false (unsigned_abs p.parts.s) 0 e in let low = i.low in let l = s_high in let sum = i.sum in let u = times_n in
      let some : pos 0 <ℤ p.parts.s = omega (arith, ints) in
      let gs = mul-lt_z p.parts.g (pos 0) p.parts.s i.positive some in
      record {
        sum = simp ring (let y = simp ring at sum in let u' = simp ring at u in omega (arith, ints));
        low = omega (arith, ints);
        high = simp ring (omega (arith, ints));
        positive = i.positive;
        divisor = rw (abs-neg (pos a)) i.divisor;
      })

pub second_is : (a : ℤ) (b : ℕ) (p : GcdParts) (t : ℤ) → IsBezout a (pos b) p → t ≡ neg_ℤ p.t → IsBezout a (neg_ℤ (pos b)) (record { g = p.g; s = p.s; t = t })
second_is a b p t i e =
    let sum = i.sum in
    record {
      sum = rw e (simp ring (omega (arith, ints)));
      low = i.low;
      high = rw (abs-neg (pos b)) i.high;
      positive = i.positive;
      divisor = rw (abs-neg (pos b)) i.divisor;
    }

pub turned_value : (turned : Bool) (p : Positive) (g s t : ℤ) → turned ≡ true → p.parts.s ≢ pos 0 → g ≡ p.parts.g → s ≡ p.n -ℤ p.parts.s →
    t ≡ p.parts.t +ℤ p.m →
    ◌≡◌ {A = GcdParts} (record { g = g; s = s; t = t }) (first_turned_of turned p)
turned_value turned p g s t e n eg es et =
    rw (e, eg, es, et) (cond_both (unsigned_abs p.parts.s == 0) p.parts (record { g = p.parts.g; s = p.n -ℤ p.parts.s; t = p.parts.t +ℤ p.m })
    (λ x. ◌≡◌ {A = GcdParts} (record { g = p.parts.g; s = p.n -ℤ p.parts.s; t = p.parts.t +ℤ p.m }) x)
    (λ h. absurd (n (let z = eqb-true (unsigned_abs p.parts.s) 0 h in omega (arith, ints)))) (λ h. refl))

-- what `first_turned` asks
pub small_is : (a b : ℕ) (p : Positive) → 1 ≤ a → 1 ≤ b → a < 2 ^ 127 → b < 2 ^ 127 → IsBezout (pos a) (pos b) p.parts → p.n *ℤ p.parts.g ≡ pos b →
    p.m *ℤ p.parts.g ≡ pos a → FirstSmall p
small_is a b p ha hb la lb i n_is m_is =
    let h = s_high a b p ha hb i n_is m_is in
    let g = i.positive in
    let low = i.low in
    let one : pos 1 ≤ℤ p.parts.g = omega (arith, ints) in
    let t = t_down a b p ha hb i n_is m_is in
    let tl = t_low a b p.parts ha hb i in
    record {
      s_low = low;
      s_high = omega (arith, ints);
      n_high = let k = mul-le_z p.n (pos 1) p.parts.g (omega (arith, ints)) one in omega (arith, ints);
      t_low = t;
      t_high = λ z. ⊎_elim (λ q. q) (λ q.
          let t1 : p.parts.t ≡ pos 1 = let u = tl.1 in omega (arith, ints) in
          let sum = rw t1 at i.sum in
          let gl = g_low (pos a) b p.parts hb i in
          let sa = mul-lt_z (pos a) (pos 0) p.parts.s (omega (arith, ints)) (omega (arith, ints)) in
          absurd (omega (arith, ints, mul_comm_z p.parts.s (pos a)))) (le_or_lt_z p.parts.t (pos 0));
      m_high = ⊎_elim (λ q. let k = mul-le_z p.m (pos 1) p.parts.g q one in omega (arith, ints)) (λ q. omega (arith, ints)) (le_or_lt_z (pos 0) p.m);
    }

pub signed_first : (a : ℤ) (x b : ℕ) (t : Bool) (p : Positive) → x ≡ unsigned_abs a → 1 ≤ x → 1 ≤ b → (t ≡ true → a <ℤ pos 0) → (t ≡ false → pos 0 ≤ℤ a) →
    IsBezout (pos x) (pos b) p.parts → p.n *ℤ p.parts.g ≡ pos b → p.m *ℤ p.parts.g ≡ pos x → IsBezout a (pos b) (first_turned_of t p)
signed_first a x b false p e h k f g i n_is m_is = let l = g refl in let same : pos x ≡ a = omega (arith, ints) in rw (← same) i
signed_first a x b true p e h k f g i n_is m_is = let l = f refl in let same : neg_ℤ (pos x) ≡ a = omega (arith, ints) in
    rw (← same) (turned_is x b p h k i n_is m_is)

pub signed_second : (a b : ℤ) (y : ℕ) (p : GcdParts) (g s t : ℤ) → y ≡ unsigned_abs b → b <ℤ pos 0 → IsBezout a (pos y) p → g ≡ p.g → s ≡ p.s → t ≡ neg_ℤ p.t →
    IsBezout a b (record { g = g; s = s; t = t })
signed_second a b y p g s t e l i eg es et = let same : neg_ℤ (pos y) ≡ b = omega (arith, ints) in rw (← same, eg, es) (second_is a y p t i et)

pub turned_t_low : (turned : Bool) (a b : ℕ) (p : Positive) → 1 ≤ a → 1 ≤ b → IsBezout (pos a) (pos b) p.parts → p.n *ℤ p.parts.g ≡ pos b →
    p.m *ℤ p.parts.g ≡ pos a → pos 0 ≤ℤ ((first_turned_of turned p).t +ℤ pos a)
turned_t_low false a b p ha hb i n_is m_is = (t_low a b p.parts ha hb i).0
turned_t_low true a b p ha hb i n_is m_is =
    let l = (t_low a b p.parts ha hb i).0 in
    let d = t_down a b p ha hb i n_is m_is in
    cond_both (unsigned_abs p.parts.s == 0) p.parts (record { g = p.parts.g; s = p.n -ℤ p.parts.s; t = p.parts.t +ℤ p.m }) (λ x. pos 0 ≤ℤ (x.t +ℤ pos a))
    (λ e. l) (λ e. omega (arith, ints))
