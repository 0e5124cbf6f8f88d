-- When the divisor of a pattern's factors is 0.
use Rattle.std.proofs.Common.{◌≡◌, ℕ, zero, suc, ℤ, pos, negsuc, unsigned_abs, ◌+◌, ◌%◌, ◌≤◌, ◌==◌, Bool, true, false, ◌&&◌, List, [], ◌∷◌, refl, ◌∙◌, ap, arith}
use Rattle.std.proofs.Math.Nat.{zero-mod}
use Rattle.std.proofs.lemmas.Bool.Decides.{Decides-int_eq}
use Rattle.std.specs.Ordering.{int_eq}
use Rattle.cf_num.specs.Divisors.{gcd_by, gcd_of}
use Rattle.cf_program.specs.Counted.{are_zero}
use Rattle.cf_program.specs.Lowered.{divisor}

gcd_by-positive : (n a b : ℕ) → b ≤ n → 1 ≤ a + b → 1 ≤ gcd_by n a b
unfolding gcd_by
gcd_by-positive zero a b h k = omega arith
gcd_by-positive (suc n) a zero h k = omega arith
gcd_by-positive (suc n) a (suc b) h k = gcd_by-positive n (suc b) (a % suc b) (omega arith) (omega arith)

gcd_by-none : (n a : ℕ) → gcd_by n a 0 ≡ a
unfolding gcd_by
gcd_by-none zero a = refl
gcd_by-none (suc n) a = refl

gcd_of-none : (d : ℕ) → gcd_of 0 d ≡ d
unfolding gcd_by
gcd_of-none zero = refl
gcd_of-none (suc d) =
    let rest : 0 % suc d ≡ 0 = zero-mod (suc d) in
    ap (gcd_by d (suc d)) rest ∙ gcd_by-none d (suc d)

-- a factor 0 changes nothing
divisor_zero : (factors : List ℤ) → divisor (pos 0 ∷ factors) ≡ divisor factors
divisor_zero factors = gcd_of-none (divisor factors)

some_size : (f : ℤ) → (f ≡ pos 0 → ⊥) → 1 ≤ unsigned_abs f
some_size (pos zero) h = absurd (h refl)
some_size (pos (suc n)) h = omega arith
some_size (negsuc n) h = omega arith

pub not_zero : (n : ℕ) → 1 ≤ n → (n == 0) ≡ false
not_zero n h = grind arith

divisor_some : (f : ℤ) (factors : List ℤ) → (f ≡ pos 0 → ⊥) → (divisor (f ∷ factors) == 0) ≡ false
divisor_some f factors h =
    not_zero (divisor (f ∷ factors)) (gcd_by-positive (divisor factors) (unsigned_abs f) (divisor factors) (omega arith) (omega (arith, some_size f h)))

-- the divisor is 0 where all factors are 0
pub divisor_is : (factors : List ℤ) → (divisor factors == 0) ≡ are_zero factors
divisor_is [] = refl
divisor_is (f ∷ factors) = by (int_eq f (pos 0)) refl (divisor_is factors)
  where
    by : (b : Bool) → int_eq f (pos 0) ≡ b → (divisor factors == 0) ≡ are_zero factors → (divisor (f ∷ factors) == 0) ≡ (b && are_zero factors)
    by true q rest =
        let zero_is : f ≡ pos 0 = (Decides-int_eq f (pos 0)).0 q in
        ap (λ g. divisor (g ∷ factors) == 0) zero_is ∙ ap (λ d. d == 0) (divisor_zero factors) ∙ rest
    by false q rest = divisor_some f factors (λ e. let t : int_eq f (pos 0) ≡ true = (Decides-int_eq f (pos 0)).1 e in cc)
