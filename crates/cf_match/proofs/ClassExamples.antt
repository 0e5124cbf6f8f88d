-- Worked examples that hold down the classes of patterns.
use Rattle.std.specs.Prelude.{pos, negsuc, ◌≡◌, [], ◌∷◌, refl}
use Rattle.cf_num.specs.Divisors.{gcd_by}
use Rattle.cf_match.specs.declared.class.Class.TheVariants.{Point, Residue}
use Rattle.cf_match.specs.Classes.{class_of, IsIn}

-- `2 * i` and `2 * i + 1`
halves : (class_of (pos 2 ∷ []) (pos 0) ≡ Residue (pos 2) (pos 0)) × (class_of (pos 2 ∷ []) (pos 1) ≡ Residue (pos 2) (pos 1))
unfolding gcd_by
halves = (refl, refl)

-- `3`, `0 * i + 3` and `0 * i + 0 * j - 5`
points : (class_of [] (pos 3) ≡ Point (pos 3)) × (class_of (pos 0 ∷ []) (pos 3) ≡ Point (pos 3)) × (class_of (pos 0 ∷ pos 0 ∷ []) (negsuc 4) ≡ Point (negsuc 4))
unfolding gcd_by
points = (refl, refl, refl)

-- `-3 * i`, `-4 * i - 7` and `i + 12`, whose class holds all numbers
negative : (class_of (negsuc 2 ∷ []) (pos 0) ≡ Residue (pos 3) (pos 0)) × (class_of (negsuc 3 ∷ []) (negsuc 6) ≡ Residue (pos 4) (pos 1))
    × (class_of (pos 1 ∷ []) (pos 12) ≡ Residue (pos 1) (pos 0))
unfolding gcd_by
negative = (refl, refl, refl)

-- `-6 * i + 4 * j - 3`, `6 * i + 9 * j - 1`, `6 * i + 10 * j + 15 * k + 7` and `0 * i - 5 * j + 4`
several : (class_of (negsuc 5 ∷ pos 4 ∷ []) (negsuc 2) ≡ Residue (pos 2) (pos 1)) × (class_of (pos 6 ∷ pos 9 ∷ []) (negsuc 0) ≡ Residue (pos 3) (pos 2))
    × (class_of (pos 6 ∷ pos 10 ∷ pos 15 ∷ []) (pos 7) ≡ Residue (pos 1) (pos 0)) × (class_of (pos 0 ∷ negsuc 4 ∷ []) (pos 4) ≡ Residue (pos 5) (pos 4))
unfolding gcd_by
several = (refl, refl, refl, refl)

-- -3 is in the class of `2 * i + 1` and 4 is not; 3 is in that of `3` alone
members : IsIn (Residue (pos 2) (pos 1)) (negsuc 2) × (IsIn (Residue (pos 2) (pos 1)) (pos 4) →
    ⊥) × IsIn (Point (pos 3)) (pos 3) × (IsIn (Point (pos 3)) (pos 5) → ⊥)
members = (refl, (λ e. cc), refl, λ e. cc)
