-- Which numbers a pattern can be.
use Rattle.std.proofs.Common.{◌≡◌, ℕ, zero, suc, ◌*◌, ◌/◌, ℤ, pos, negsuc, ◌+ℤ◌, ◌-ℤ◌, ◌*ℤ◌, Bool, true, false, List, [], ◌∷◌, length, refl, sym, ap, ◌∙◌, arith}
use Rattle.std.specs.Prelude.{◌≤ℤ◌, int_lt, unsigned_abs}
use Rattle.std.proofs.lemmas.Bool.{cond_both}
use Rattle.std.specs.Int.{int_div_euclid, ◌∣◌}
use Rattle.std.specs.Ordering.{int_eq}
use Rattle.std.proofs.lemmas.Bool.Decides.{Decides-int_eq}
use Rattle.std.proofs.lemmas.Int.{ints}
use Rattle.std.proofs.Math.Nat.{div-mul_cancel}
use Rattle.cf_num.specs.Divisors.{factors_by}
use Rattle.cf_num.specs.Parts.{sign_of}
use Rattle.cf_num.proofs.DivisionLemmas.{int_div_euclid-bounds, int_div_euclid_once}
use Rattle.cf_num.proofs.DivisorLemmas.{gcd_of-is, factors_by-is}
use Rattle.cf_num.proofs.Ring.{ring}
use Rattle.cf_tree.specs.Allowed.{pattern_value, Fits}
use Rattle.cf_tree.specs.Numbers.{quotient, remainder}
use Rattle.cf_tree.proofs.SetLemmas.{lt_not}
use Rattle.cf_program.specs.Lowered.{divisor}

-- whether some numbers make a pattern z, as the test of its class tells
abbrev pub fits_by : ℕ → ℤ → ℤ → Bool
fits_by zero k z = int_eq z k
fits_by (suc d) k z = int_eq (remainder z (pos (suc d))) (remainder k (pos (suc d)))

abbrev pub fits : List ℤ → ℤ → ℤ → Bool
fits factors k z = fits_by (divisor factors) k z

sign_times : (a : ℤ) → (a *ℤ sign_of a ≡ pos (unsigned_abs a)) × (a ≡ sign_of a *ℤ pos (unsigned_abs a))
sign_times (pos n) = (omega (arith, ints), omega (arith, ints))
sign_times (negsuc n) = (omega (arith, ints), omega (arith, ints))

-- a multiple, as an equation
multiple : (g a : ℕ) → g ∣ a → (n : ℕ) × (pos a ≡ pos n *ℤ pos g)
multiple g a h = (a / g, let e : a / g * g ≡ a = div-mul_cancel g h in ap pos (sym e) ∙ omega (arith, ints))

more_value : (f i s a g u d w v k q : ℤ) → f ≡ s *ℤ a → a ≡ u *ℤ g → d ≡ w *ℤ g → v ≡ d *ℤ q +ℤ k → f *ℤ i +ℤ v ≡ g *ℤ (s *ℤ u *ℤ i +ℤ w *ℤ q) +ℤ k
more_value f i s a g u d w v k q ef ea ed ev = rw (ev, ef, ea, ed) (simp ring (omega (arith, ints)))

-- a pattern's value is a multiple of its divisor and the constant
pub value_is : (factors : List ℤ) (k : ℤ) (is : List ℤ) → length is ≡ length factors → (q : ℤ) × (pattern_value factors k is ≡ pos (divisor factors) *ℤ q +ℤ k)
value_is [] k is e = (pos 0, omega (arith, ints))
value_is (f ∷ factors) k [] e = absurd (omega arith)
value_is (f ∷ factors) k (i ∷ is) e =
    let rest = value_is factors k is (omega arith) in
    let both = gcd_of-is (unsigned_abs f) (divisor factors) in
    let u = multiple (divisor (f ∷ factors)) (unsigned_abs f) both.0 in
    let w = multiple (divisor (f ∷ factors)) (divisor factors) both.1 in (
      sign_of f *ℤ pos u.0 *ℤ i +ℤ pos w.0 *ℤ rest.0,
      more_value f i (sign_of f) (pos (unsigned_abs f)) (pos (divisor (f ∷ factors))) (pos u.0) (pos (divisor factors)) (pos w.0) (pattern_value factors k is) k
          rest.0 (sign_times f).1 u.1 w.1 rest.1,
    )

found_value : (f s a d g t r v k q : ℤ) → f *ℤ s ≡ a → r *ℤ a +ℤ t *ℤ d ≡ g → v ≡ d *ℤ (t *ℤ q) +ℤ k → f *ℤ (s *ℤ (r *ℤ q)) +ℤ v ≡ g *ℤ q +ℤ k
found_value f s a d g t r v k q ea eg ev =
    let first = simp ring at (ap (λ x. x *ℤ (r *ℤ q)) ea) in
    let sum = simp ring at (ap (λ x. x *ℤ q) eg) in
    rw ev (omega (arith, ints))

-- and each such number is a value of it
pub value_found : (factors : List ℤ) (k q : ℤ) → (is : List ℤ) × (length is ≡ length factors) × (pattern_value factors k is ≡ pos (divisor factors) *ℤ q +ℤ k)
value_found [] k q = ([], refl, omega (arith, ints))
value_found (f ∷ factors) k q =
    let both = factors_by (divisor factors) (unsigned_abs f) (divisor factors) in
    let rest = value_found factors k (both.1 *ℤ q) in (
      (sign_of f *ℤ (both.0 *ℤ q)) ∷ rest.0,
      ap suc rest.1,
      found_value f (sign_of f) (pos (unsigned_abs f)) (pos (divisor factors)) (pos (divisor (f ∷ factors))) both.1 both.0
          (pattern_value factors k rest.0) k q (sign_times f).0 (factors_by-is (divisor factors) (unsigned_abs f) (divisor factors) (omega arith)) rest.2,
    )

-- numbers with the same remainder differ by a multiple
same_remainder : (z k n q r : ℤ) → z -ℤ n *ℤ q ≡ k -ℤ n *ℤ r → z ≡ n *ℤ (q -ℤ r) +ℤ k
same_remainder z k n q r e = simp ring (omega (arith, ints))

remainder_of : (z k n q r : ℤ) → z ≡ n *ℤ q +ℤ k → z -ℤ n *ℤ (q +ℤ r) ≡ k -ℤ n *ℤ r
remainder_of z k n q r e = simp ring (omega (arith, ints))

pub quotient-is : (z k : ℤ) → pos 1 ≤ℤ k → quotient z k ≡ int_div_euclid z k
quotient-is z k p =
    cond_both (int_lt (pos 0) k) (int_div_euclid z k) (pos 0) (λ x. x ≡ int_div_euclid z k) (λ e. refl)
    (λ e. absurd (let l = lt_not (pos 0) k e in omega (arith, ints)))

quotient_of : (z k q : ℤ) (d : ℕ) → z ≡ pos (suc d) *ℤ q +ℤ k → quotient z (pos (suc d)) ≡ q +ℤ quotient k (pos (suc d))
quotient_of z k q d e =
    let n = pos (suc d) in
    let b = int_div_euclid-bounds k n (omega (arith, ints)) in
    let once : int_div_euclid z n ≡ q +ℤ int_div_euclid k n =
    int_div_euclid_once z n (q +ℤ int_div_euclid k n) (omega (arith, ints)) (simp ring (omega (arith, ints))) (simp ring (omega (arith, ints))) in
    quotient-is z n (omega (arith, ints)) ∙ once ∙ ap (λ x. q +ℤ x) (sym (quotient-is k n (omega (arith, ints))))

test_true : (d : ℕ) (k z q : ℤ) → z ≡ pos d *ℤ q +ℤ k → fits_by d k z ≡ true
test_true zero k z q e = (Decides-int_eq z k).1 (omega (arith, ints))
test_true (suc d) k z q e =
    (Decides-int_eq (remainder z (pos (suc d))) (remainder k (pos (suc d)))).1
    (ap (λ x. z -ℤ pos (suc d) *ℤ x) (quotient_of z k q d e) ∙ remainder_of z k (pos (suc d)) q (quotient k (pos (suc d))) e)

true_test : (d : ℕ) (k z : ℤ) → fits_by d k z ≡ true → (q : ℤ) × (z ≡ pos d *ℤ q +ℤ k)
true_test zero k z h = (pos 0, let e : z ≡ k = (Decides-int_eq z k).0 h in omega (arith, ints))
true_test (suc d) k z h = (
  quotient z (pos (suc d)) -ℤ quotient k (pos (suc d)),
  same_remainder z k (pos (suc d)) (quotient z (pos (suc d))) (quotient k (pos (suc d)))
      ((Decides-int_eq (remainder z (pos (suc d))) (remainder k (pos (suc d)))).0 h),
)

-- the test tells numbers that make the pattern z
pub fits_some : (factors : List ℤ) (k z : ℤ) → fits factors k z ≡ true → (is : List ℤ) × Fits factors k z is
fits_some factors k z h =
    let q = true_test (divisor factors) k z h in
    let found = value_found factors k q.0 in
    (found.0, (found.1, q.1 ∙ sym found.2))

-- and where it tells none there are none
pub fits_none : (factors : List ℤ) (k z : ℤ) → fits factors k z ≡ false → (is : List ℤ) → Fits factors k z is → ⊥
fits_none factors k z h is fit =
    let q = value_is factors k is fit.0 in
    let t : fits factors k z ≡ true = test_true (divisor factors) k z q.0 (fit.1 ∙ q.1) in cc
