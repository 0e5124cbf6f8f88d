-- Regions of sets, named by masks, and how many elements they have.
use Rattle.std.specs.Prelude.{ℕ, ◌+◌, ◌*◌, ◌==◌, ℤ, cond, List, [], ◌∷◌, length, filter, map}
use Rattle.cf_tree.specs.Sets.{IsRising, has, set_union}
use Rattle.cf_tree.specs.Values.{Value, elements_of, value_at}

-- the sets of these levels
abbrev pub sets_at : List Value → List ℕ → List (List ℤ)
sets_at env xs = map (λ x. elements_of (value_at env x)) xs

abbrev pub AreRising : List (List ℤ) → Type 0
AreRising [] = Unit {0}
AreRising (s ∷ ss) = IsRising s × AreRising ss

-- the mask of the sets that x is in: bit i is of set i
abbrev pub mask : List (List ℤ) → ℤ → ℕ
mask [] x = 0
mask (s ∷ ss) x = cond (has s x) 1 0 + 2 * mask ss x

abbrev pub union_all : List (List ℤ) → List ℤ
union_all [] = []
union_all (s ∷ ss) = set_union s (union_all ss)

-- what is in exactly the sets of the mask
abbrev pub region : List (List ℤ) → ℕ → List ℤ
region ss m = filter (λ x. mask ss x == m) (union_all ss)

abbrev pub count : List (List ℤ) → ℕ → ℕ
count ss m = length (region ss m)
