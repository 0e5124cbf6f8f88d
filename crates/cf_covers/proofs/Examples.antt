-- Classes that hold all numbers, and classes that do not.
use Rattle.std.proofs.Common.{◌≡◌, ℕ, zero, suc, ◌<◌, pos, List, [], ◌∷◌, get_or, refl, sym, subst, arith}
use Rattle.std.proofs.lemmas.Int.{ints}
use Rattle.cf_match.specs.declared.class.Class.{Class}
use Rattle.cf_match.specs.declared.class.Class.TheVariants.{Point, Residue}
use Rattle.cf_match.specs.Classes.{IsIn}
use Rattle.cf_covers.specs.declared.coverage.Cover.TheVariants as cover
use Rattle.cf_covers.specs.Covers.{IsHeld, IsCover, IsInside}
use Rattle.cf_covers.proofs.InsideLaws.{residue_inside}

-- 7 is in the second of these classes
second_holds_7 : IsHeld (Point (pos 3) ∷ Residue (pos 4) (pos 3) ∷ []) (pos 7)
second_holds_7 = (1, Residue (pos 4) (pos 3), omega arith, refl, refl)

-- 3 and the even numbers miss 1
abbrev three_and_evens : List Class
three_and_evens = Point (pos 3) ∷ Residue (pos 2) (pos 0) ∷ []

evens_miss_1 : IsCover three_and_evens (cover.Misses (pos 1))
evens_miss_1 s = by s.0 s.1 s.2 s.3 s.4
  where
    by : (k : ℕ) (c : Class) → k < 2 → get_or three_and_evens k c ≡ c → IsIn c (pos 1) → ⊥
    by zero c l e h = let i : IsIn (Point (pos 3)) (pos 1) = subst (λ x. IsIn x (pos 1)) (sym e) h in cc
    by (suc zero) c l e h = let i : IsIn (Residue (pos 2) (pos 0)) (pos 1) = subst (λ x. IsIn x (pos 1)) (sym e) h in cc
    by (suc (suc k)) c l e h = absurd (omega arith)

-- what leaves 3 behind multiples of 4 is odd
threes_are_odd : IsInside (Residue (pos 4) (pos 3)) (Residue (pos 2) (pos 1))
threes_are_odd = residue_inside (pos 4) (pos 3) (pos 2) (pos 1) (omega (arith, ints)) refl refl
