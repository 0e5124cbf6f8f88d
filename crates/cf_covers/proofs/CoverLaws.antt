-- Residues tell of all numbers.
use Rattle.std.proofs.Common.{◌≡◌, ℕ, ◌<◌, ◌*◌, ℤ, pos, negsuc, ◌+ℤ◌, ◌-ℤ◌, ◌*ℤ◌, List, refl, sym, ◌∙◌, ap, subst, arith}
use Rattle.std.specs.Prelude.{◌≤ℤ◌, ◌<ℤ◌}
use Rattle.std.proofs.lemmas.Int.{ints}
use Rattle.cf_num.proofs.BezoutLemmas.{times_is}
use Rattle.cf_num.proofs.DivisionLemmas.{int_div_euclid-bounds}
use Rattle.cf_num.proofs.DivisorLemmas.{int_div_euclid-multiple}
use Rattle.cf_num.proofs.Orders.{lt-mul_cancel_z, mul-lt_z}
use Rattle.cf_tree.specs.Numbers.{quotient, remainder}
use Rattle.cf_match.specs.declared.class.Class.{Class}
use Rattle.cf_match.specs.declared.class.Class.TheVariants.{Residue}
use Rattle.cf_match.specs.Classes.{IsIn}
use Rattle.cf_match.proofs.Patterns.{quotient-is}
use Rattle.cf_covers.specs.Covers.{IsHeld, AreHeld, HoldResidues, HoldSteps, HasAll}
use Rattle.cf_covers.proofs.InsideLaws.{left_by_divisor}

-- what a number leaves is a number below the period
below : (z : ℤ) (p : ℕ) → 0 < p → (n : ℕ) × (n < p) × (remainder z (pos p) ≡ pos n)
below z p h = by (remainder z (pos p)) refl
  where
    bounds : (pos 0 ≤ℤ remainder z (pos p)) × (remainder z (pos p) <ℤ pos p)
    bounds = let b = int_div_euclid-bounds z (pos p) (omega (arith, ints)) in
        rw (quotient-is z (pos p) (omega (arith, ints))) (omega (arith, ints), omega (arith, ints))

    by : (r : ℤ) → remainder z (pos p) ≡ r → (n : ℕ) × (n < p) × (remainder z (pos p) ≡ pos n)
    by (pos n) e = (n, (let b = bounds.1 in let l : pos n <ℤ pos p = rw e at b in omega (arith, ints)), e)
    by (negsuc n) e = absurd (let b = bounds.0 in omega (arith, ints))

-- where the period is a multiple of g, a number and what it leaves behind multiples of the period are in the same residue class of g
pub all_by_residues : (classes : List Class) (g r : ℤ) (p : ℕ) → 0 < p → pos 0 <ℤ g → remainder (pos p) g ≡ pos 0 →
    HoldResidues classes (Residue g r) p → AreHeld classes (Residue g r)
all_by_residues classes g r p h k f all = record { held = λ z i. by z i (below z p h) }
  where
    by : (z : ℤ) → IsIn (Residue g r) z → ((n : ℕ) × (n < p) × (remainder z (pos p) ≡ pos n)) → IsHeld classes z
    by z i s = (all.held s.0 s.1 (sym (left_by_divisor z (pos p) (pos s.0) g k f s.2) ∙ i)).held z s.2

pub every_is_held : (classes : List Class) (class : Class) → HasAll class → AreHeld classes class → (z : ℤ) → IsHeld classes z
every_is_held classes class all held z = held.held z (all.all z)

-- ---- steps
multiple_leaves : (g k : ℤ) → pos 0 <ℤ g → remainder (g *ℤ k) g ≡ pos 0
multiple_leaves g k h =
    let q : quotient (g *ℤ k) g ≡ k = quotient-is (g *ℤ k) g (omega (arith, ints)) ∙ int_div_euclid-multiple g k (λ e. omega (arith, ints)) in
    ap (λ x. g *ℤ k -ℤ g *ℤ x) q ∙ omega (arith, ints)

-- so many times g, as a number
period : (g : ℤ) (steps : ℕ) → pos 0 <ℤ g → 0 < steps → (p : ℕ) × (0 < p) × (g *ℤ pos steps ≡ pos p)
period (pos g) steps h l = (g * steps, positive, is)
  where
    is : pos g *ℤ pos steps ≡ pos (g * steps)
    is = times_is g steps (g * steps) (pos g) (pos steps) refl refl refl

    positive : 0 < g * steps
    positive = let m = mul-lt_z (pos g) (pos 0) (pos steps) h (omega (arith, ints)) in omega (arith, ints, is, m)
period (negsuc g) steps h l = absurd (omega (arith, ints))

-- a number below g times some steps is so many steps of g, fewer than these, and what it leaves
module _ (n : ℕ) (g r : ℤ) (steps : ℕ) (h : pos 0 <ℤ g) (below_all : pos n <ℤ (g *ℤ pos steps)) (e : remainder (pos n) g ≡ r) where
  left : (pos 0 ≤ℤ r) × (r <ℤ g)
  left = let b = int_div_euclid-bounds (pos n) g h in
      rw (← e, quotient-is (pos n) g (omega (arith, ints))) (omega (arith, ints), omega (arith, ints))

  abbrev q : ℤ
  q = quotient (pos n) g

  is_sum : pos n ≡ r +ℤ g *ℤ q
  is_sum = let s : pos n -ℤ g *ℤ q ≡ r = e in omega (arith, ints, s)

  q_low : negsuc 0 <ℤ q
  q_low = let b = left in let s = is_sum in lt-mul_cancel_z g (negsuc 0) q h (omega (arith, ints, s, b.0, b.1))

  q_high : q <ℤ pos steps
  q_high = let b = left in let s = is_sum in lt-mul_cancel_z g q (pos steps) h (omega (arith, ints, s, b.0, below_all))

  in_steps : (i : ℕ) × (i < steps) × (pos n ≡ r +ℤ g *ℤ pos i)
  in_steps = by q refl
    where
      by : (z : ℤ) → q ≡ z → (i : ℕ) × (i < steps) × (pos n ≡ r +ℤ g *ℤ pos i)
      by (pos i) f = (i, (let u = subst (λ x. x <ℤ pos steps) f q_high in omega (arith, ints, u)), subst (λ x. pos n ≡ r +ℤ g *ℤ x) f is_sum)
      by (negsuc i) f = absurd (let l = subst (λ x. negsuc 0 <ℤ x) f q_low in omega (arith, ints, l))

pub all_by_steps : (classes : List Class) (g r : ℤ) (steps : ℕ) → pos 0 <ℤ g → 0 < steps → HoldSteps classes g r steps →
    AreHeld classes (Residue g r)
all_by_steps classes g r steps h some all = record { held = λ z i. by_period z i (period g steps h some) }
  where
    by : (z : ℤ) (p : ℕ) → g *ℤ pos steps ≡ pos p → IsIn (Residue g r) z → ((n : ℕ) × (n < p) × (remainder z (pos p) ≡ pos n)) → IsHeld classes z
    by z p is i (n, l, e) =
        let divides : remainder (pos p) g ≡ pos 0 = subst (λ x. remainder x g ≡ pos 0) is (multiple_leaves g (pos steps) h) in
        let leaves : remainder (pos n) g ≡ r = sym (left_by_divisor z (pos p) (pos n) g h divides e) ∙ i in
        let s = in_steps n g r steps h (subst (λ x. pos n <ℤ x) (sym is) (omega (arith, ints))) leaves in
        (all.held s.0 s.1).held z (subst (λ x. remainder z x ≡ r +ℤ g *ℤ pos s.0) (sym is) (e ∙ s.2))

    by_period : (z : ℤ) → IsIn (Residue g r) z → ((p : ℕ) × (0 < p) × (g *ℤ pos steps ≡ pos p)) → IsHeld classes z
    by_period z i (p, positive, is) = by z p is i (below z p positive)
