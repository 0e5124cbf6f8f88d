-- What numbers leave behind multiples, and classes inside of others.
use Rattle.std.proofs.Common.{◌≡◌, ℕ, ◌<◌, ◌≤◌, ℤ, pos, negsuc, true, ◌+ℤ◌, ◌*ℤ◌, ◌-ℤ◌, List, length, get_or, sym, ◌∙◌, ap, subst, arith}
use Rattle.std.specs.Prelude.{◌<ℤ◌, ◌≤ℤ◌, int_lt}
use Rattle.std.specs.Int.{int_div_euclid, int_rem_euclid}
use Rattle.std.proofs.lemmas.Int.{ints}
use Rattle.std.proofs.lemmas.Bool.{cond_both}
use Rattle.std.proofs.lemmas.List.{get_or_default}
use Rattle.cf_num.proofs.Ring.{ring}
use Rattle.cf_num.proofs.DivisionLemmas.{int_div_euclid-bounds, int_div_euclid_once, int_div_euclid-one}
use Rattle.cf_num.proofs.DivisorLemmas.{int_rem_euclid-is}
use Rattle.cf_tree.specs.Numbers.{quotient, remainder}
use Rattle.cf_match.specs.declared.class.Class.{Class}
use Rattle.cf_match.specs.declared.class.Class.TheVariants.{Point, Residue}
use Rattle.cf_match.specs.Classes.{IsIn}
use Rattle.cf_match.proofs.Patterns.{quotient-is}
use Rattle.cf_covers.specs.Covers.{IsHeld, IsMissed, IsInside, AreHeld, HasAll}

pub remainder_is : (z k : ℤ) → pos 0 <ℤ k → int_rem_euclid z k ≡ remainder z k
remainder_is z (pos n) h =
    int_rem_euclid-is z n (omega (arith, ints)) ∙ sym (ap (λ x. z -ℤ pos n *ℤ x) (quotient-is z (pos n) (omega (arith, ints))))
remainder_is z (negsuc n) h = absurd (omega (arith, ints))

pub remainder_low : (z k : ℤ) → k ≤ℤ pos 0 → remainder z k ≡ z
remainder_low z k h =
    cond_both (int_lt (pos 0) k) (int_div_euclid z k) (pos 0) (λ x. z -ℤ k *ℤ x ≡ z)
    (λ e. absurd (let l = is_less (pos 0) k e in omega (arith, ints))) (λ e. omega (arith, ints))
  where
    is_less : (x y : ℤ) → int_lt x y ≡ true → x <ℤ y
    is_less x y e = grind (arith, ints)

less_multiple : (z r d q s : ℤ) → z ≡ d *ℤ q +ℤ r → z -ℤ d *ℤ (q +ℤ s) ≡ r -ℤ d *ℤ s
less_multiple z r d q s e = simp ring (omega (arith, ints))

-- a multiple of d more leaves the same behind multiples of d
pub left_same : (z r d q : ℤ) → pos 0 <ℤ d → z ≡ d *ℤ q +ℤ r → remainder z d ≡ remainder r d
left_same z r d q h e =
    let b = int_div_euclid-bounds r d h in
    let once : int_div_euclid z d ≡ q +ℤ int_div_euclid r d =
    int_div_euclid_once z d (q +ℤ int_div_euclid r d) h (simp ring (omega (arith, ints))) (simp ring (omega (arith, ints))) in
    let u : quotient z d ≡ q +ℤ quotient r d =
    quotient-is z d (omega (arith, ints)) ∙ once ∙ ap (λ x. q +ℤ x) (sym (quotient-is r d (omega (arith, ints)))) in
    ap (λ x. z -ℤ d *ℤ x) u ∙ less_multiple z r d q (quotient r d) e

multiple_of : (z g r d m q : ℤ) → z -ℤ g *ℤ q ≡ r → g -ℤ d *ℤ m ≡ pos 0 → z ≡ d *ℤ (m *ℤ q) +ℤ r
multiple_of z g r d m q e f = let h = simp ring at (ap (λ x. x *ℤ q) f) in omega (arith, ints)

-- what leaves r behind multiples of g leaves the same as r behind multiples of a divisor of g
pub left_by_divisor : (z g r d : ℤ) → pos 0 <ℤ d → remainder g d ≡ pos 0 → remainder z g ≡ r → remainder z d ≡ remainder r d
left_by_divisor z g r d h f e =
    left_same z r d (quotient g d *ℤ quotient z g) h (multiple_of z g r d (quotient g d) (quotient z g) e f)

pub residue_inside : (n left g r : ℤ) → pos 0 <ℤ g → remainder n g ≡ pos 0 → remainder left g ≡ r → IsInside (Residue n left) (Residue g r)
residue_inside n left g r h f e = record { within = λ z i. left_by_divisor z n left g h f i ∙ e }

pub point_inside : (c : ℤ) (other : Class) → IsIn other c → IsInside (Point c) other
point_inside c other i = record { within = λ z e. subst (λ x. IsIn other x) (sym e) i }

pub all_in : HasAll (Residue (pos 1) (pos 0))
all_in = record { all = λ z. quotient_one z (quotient-is z (pos 1) (omega (arith, ints)) ∙ int_div_euclid-one z) }
  where
    quotient_one : (z : ℤ) → quotient z (pos 1) ≡ z → remainder z (pos 1) ≡ pos 0
    quotient_one z e = ap (λ x. z -ℤ pos 1 *ℤ x) e ∙ omega (arith, ints)

-- the class at a place holds it
pub held_at : (classes : List Class) (i : ℕ) (d : Class) (z : ℤ) → i < length classes → IsIn (get_or classes i d) z → IsHeld classes z
held_at classes i d z h p = (i, get_or classes i d, h, get_or_default classes i (get_or classes i d) d h, p)

pub inside_at : (classes : List Class) (i : ℕ) (d class : Class) → i < length classes → IsInside class (get_or classes i d) → AreHeld classes class
inside_at classes i d class h p = record { held = λ z q. held_at classes i d z h (p.within z q) }

-- no class holds a number that none before the end holds
pub missed_by_all : (classes : List Class) (i : ℕ) (z : ℤ) → length classes ≤ i →
    ((k : ℕ) → k < i → IsIn (get_or classes k (Point (pos 0))) z → ⊥) → IsMissed classes z
missed_by_all classes i z h below s =
    below s.0 (omega (arith, s.2)) (subst (λ c. IsIn c z) (sym s.3 ∙ get_or_default classes s.0 s.1 (Point (pos 0)) s.2) s.4)
