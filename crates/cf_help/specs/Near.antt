-- Names that are like an unknown one.
use Rattle.std.specs.Prelude.{ℕ, nat_le, Bool, false, ◌&&◌, ◌||◌, ◌==◌, List, [], ◌∷◌, length, codes, Option, Some, None, if◌then◌else◌}
use Rattle.std.specs.List.{concat}
use Rattle.std.specs.Str.{bytes_eq}

-- whether behind their common front one is the other but for one byte, which is inserted, deleted or replaced
abbrev pub differs_by_one : List ℕ → List ℕ → Bool
differs_by_one [] [] = false
differs_by_one [] (b ∷ y) = bytes_eq [] y
differs_by_one (a ∷ x) [] = bytes_eq x []
differs_by_one (a ∷ x) (b ∷ y) = if a == b then differs_by_one x y else (bytes_eq x y || (bytes_eq x (b ∷ y) || bytes_eq (a ∷ x) y))

-- whether x becomes y by one byte inserted, deleted or replaced, and both have two bytes or more
abbrev pub is_near : List ℕ → List ℕ → Bool
is_near x y = nat_le 2 (length x) && (nat_le 2 (length y) && differs_by_one x y)

-- the first candidate that is near
abbrev pub first_near : List ℕ → List (List ℕ) → Option (List ℕ)
first_near x [] = None
first_near x (y ∷ ys) = if is_near x y then Some y else first_near x ys

abbrev pub in_quotes : List ℕ → List ℕ
in_quotes x = concat (codes "'" ∷ x ∷ codes "'" ∷ [])

abbrev pub did_you_mean : Option (List ℕ) → Option (List ℕ)
did_you_mean None = None
did_you_mean (Some y) = Some (concat (codes "did you mean " ∷ in_quotes y ∷ codes "?" ∷ []))
