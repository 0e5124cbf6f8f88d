-- The factors of a Merge.
use Rattle.std.proofs.Common.{◌≡◌, ◌≢◌, ℕ, ◌*◌, ◌/◌, ℤ, pos, negsuc, neg_ℤ, ◌+ℤ◌, ◌-ℤ◌, ◌*ℤ◌, sym, ap, arith, suc}
use Rattle.std.specs.Prelude.{unsigned_abs, ◌<ℤ◌}
use Rattle.std.specs.Int.{int_div_euclid}
use Rattle.std.proofs.lemmas.Int.{ints}
use Rattle.std.proofs.Math.Nat.{mul-div_cancel'}
use Rattle.cf_num.specs.Parts.{parts_of}
use Rattle.cf_num.proofs.Ring.{ring}
use Rattle.cf_num.proofs.Orders.{mul_cancel_z}
use Rattle.cf_num.proofs.DivisionLemmas.{int_div_euclid_once}
use Rattle.cf_num.proofs.DivisorLemmas.{parts_of-is}
use Rattle.cf_linear.specs.Relations.{Divides}

pub exact_quotient : (k g : ℤ) → pos 0 <ℤ g → Divides g k → g *ℤ int_div_euclid k g ≡ k
exact_quotient k g h d =
    let f = int_div_euclid_once k g d.0 h (omega (arith, ints, d.1)) (omega (arith, ints, d.1)) in
    rw f (sym d.1)

abs_divides : (g : ℕ) (a : ℤ) (y : ℕ) → g * y ≡ unsigned_abs a → Divides (pos g) a
abs_divides g (pos n) y e = (pos y, ap pos (sym e))
abs_divides g (negsuc n) y e = (neg_ℤ (pos y), let i : pos (suc n) ≡ pos g *ℤ pos y = ap pos (sym e) in simp ring (omega (arith, ints)))

divides_from : (g a : ℤ) → pos 0 <ℤ g → unsigned_abs g * (unsigned_abs a / unsigned_abs g) ≡ unsigned_abs a → Divides g a
divides_from (pos n) a h e = abs_divides n a (unsigned_abs a / n) e
divides_from (negsuc n) a h e = absurd (omega (arith, ints))

merge_one : (a b s t g : ℤ) → pos 0 <ℤ g → s *ℤ a +ℤ t *ℤ b ≡ g → Divides g a → Divides g b → s *ℤ int_div_euclid a g +ℤ t *ℤ int_div_euclid b g ≡ pos 1
merge_one a b s t g h e da db =
    let x = int_div_euclid a g in
    let y = int_div_euclid b g in
    let ea = simp ring at (ap (λ z. s *ℤ z) (exact_quotient a g h da)) in
    let eb = simp ring at (ap (λ z. t *ℤ z) (exact_quotient b g h db)) in
    mul_cancel_z g (s *ℤ x +ℤ t *ℤ y) (pos 1) h (simp ring (omega (arith, ints)))

pub parts_one : (a b : ℤ) → a ≢ pos 0 → b ≢ pos 0 →
    (parts_of a b).s *ℤ int_div_euclid a (parts_of a b).g +ℤ (parts_of a b).t *ℤ int_div_euclid b (parts_of a b).g ≡ pos 1
parts_one a b ha hb =
    let p = parts_of a b in
    let is = parts_of-is a b ha hb in
    merge_one a b p.s p.t p.g is.positive is.sum
    (divides_from p.g a is.positive (mul-div_cancel' (unsigned_abs p.g) is.divisor.0))
    (divides_from p.g b is.positive (mul-div_cancel' (unsigned_abs p.g) is.divisor.1))

-- the unknowns as the new ones make them
pub first_again : (a b s t x y : ℤ) → s *ℤ a +ℤ t *ℤ b ≡ pos 1 → s *ℤ (a *ℤ x +ℤ b *ℤ y) -ℤ b *ℤ (s *ℤ y -ℤ t *ℤ x) ≡ x
first_again a b s t x y e =
    let p = simp ring at (ap (λ z. z *ℤ x) e) in
    simp ring (omega (arith, ints))

pub second_again : (a b s t x y : ℤ) → s *ℤ a +ℤ t *ℤ b ≡ pos 1 → t *ℤ (a *ℤ x +ℤ b *ℤ y) +ℤ a *ℤ (s *ℤ y -ℤ t *ℤ x) ≡ y
second_again a b s t x y e =
    let p = simp ring at (ap (λ z. z *ℤ y) e) in
    simp ring (omega (arith, ints))
