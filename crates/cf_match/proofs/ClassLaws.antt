-- A class holds the numbers that its pattern can be.
use Rattle.std.proofs.Common.{◌≡◌, ◌↔◌, ℕ, zero, suc, ◌+◌, ◌<◌, ◌≤◌, ℤ, pos, Bool, true, false, List, refl, get_or, length, drop, drop-cons, add-one}
use Rattle.std.specs.Prelude.{unsigned_abs}
use Rattle.std.proofs.Math.ListN.{drop_of_length-le}
use Rattle.std.proofs.lemmas.Bool.Decides.{Decides-int_eq}
use Rattle.cf_num.specs.Divisors.{gcd_of}
use Rattle.cf_tree.specs.Allowed.{Fits}
use Rattle.cf_tree.specs.Numbers.{remainder}
use Rattle.cf_program.specs.Lowered.{divisor}
use Rattle.cf_match.specs.Classes.{class_by, IsIn, ClassesAreExact}
use Rattle.cf_match.proofs.Patterns.{fits_by, fits, fits_some, fits_none}

pub divisor_next : (factors : List ℤ) (i : ℕ) → i < length factors →
    divisor (drop i factors) ≡ gcd_of (unsigned_abs (get_or factors i (pos 0))) (divisor (drop (i + 1) factors))
divisor_next factors i h = rw (add-one, drop-cons factors i (pos 0)) refl

pub divisor_end : (factors : List ℤ) (i : ℕ) → length factors ≤ i → divisor (drop i factors) ≡ 0
divisor_end factors i h = rw (drop_of_length-le factors h) refl

in_class : (d : ℕ) (k z : ℤ) → IsIn (class_by d k) z ↔ (fits_by d k z ≡ true)
in_class zero k z = ((Decides-int_eq z k).1, (Decides-int_eq z k).0)
in_class (suc d) k z =
    let decides = Decides-int_eq (remainder z (pos (suc d))) (remainder k (pos (suc d))) in (decides.1, decides.0)

pub class_is : ClassesAreExact
class_is factors k z =
    ((λ h. fits_some factors k z ((in_class (divisor factors) k z).0 h)), λ s. (in_class (divisor factors) k z).1 (by s (fits factors k z) refl))
  where
    by : ((is : List ℤ) × Fits factors k z is) → (b : Bool) → fits factors k z ≡ b → fits factors k z ≡ true
    by s true e = e
    by s false e = absurd (fits_none factors k z e s.0 s.1)
