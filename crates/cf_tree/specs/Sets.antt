-- Finite sets of whole numbers as strictly rising lists.
use Rattle.std.specs.Prelude.{ℕ, ◌+◌, ℤ, pos, ◌<ℤ◌, int_lt, Bool, false, cond, not, ◌||◌, List, [], ◌∷◌, length, take, drop, filter, map, All}
use Rattle.std.specs.List.{range_with_len, list_all}
use Rattle.std.specs.Ordering.{int_eq}
use Rattle.cf_num.specs.Limit.{IsWithin}

abbrev pub AreAbove : ℤ → List ℤ → Type 0
AreAbove x [] = Unit {0}
AreAbove x (y ∷ ys) = (x <ℤ y) × AreAbove x ys

abbrev pub IsRising : List ℤ → Type 0
IsRising [] = Unit {0}
IsRising (x ∷ xs) = AreAbove x xs × IsRising xs

-- each element is within the limit
abbrev pub AreWithin : List ℤ → Type 0
AreWithin xs = All IsWithin xs

-- whether x stands in the list
abbrev pub has : List ℤ → ℤ → Bool
has [] x = false
has (y ∷ ys) x = int_eq y x || has ys x

-- a rising list with one more element
abbrev pub set_put : ℤ → List ℤ → List ℤ
set_put x [] = x ∷ []
set_put x (y ∷ ys) = cond (int_lt x y) (x ∷ y ∷ ys) (cond (int_lt y x) (y ∷ set_put x ys) (y ∷ ys))

abbrev pub set_union : List ℤ → List ℤ → List ℤ
set_union [] ys = ys
set_union (x ∷ xs) ys = set_put x (set_union xs ys)

-- the set of the elements of a list
abbrev pub set_of : List ℤ → List ℤ
set_of xs = set_union xs []

abbrev pub set_inter : List ℤ → List ℤ → List ℤ
set_inter xs ys = filter (has ys) xs

abbrev pub set_diff : List ℤ → List ℤ → List ℤ
set_diff xs ys = filter (λ x. not (has ys x)) xs

-- whether each element of the first stands in the second
abbrev pub is_subset : List ℤ → List ℤ → Bool
is_subset xs ys = list_all (has ys) xs

-- the elements at the places from .. from + n - 1, those that exist
abbrev pub set_slice : List ℤ → ℕ → ℕ → List ℤ
set_slice xs from n = take n (drop from xs)

-- the n least numbers from 0 upwards that are not in xs: they stand among the first n + length xs ones
abbrev pub set_fresh : List ℤ → ℕ → List ℤ
set_fresh xs n = take n (set_diff (map (λ k. pos k) (range_with_len 0 (n + length xs))) xs)
