-- Commands of SMT-LIB over numbers, and the terms in them.
use Rattle.std.specs.Prelude.{ℕ, zero, suc, ◌+◌, ◌*◌, ◌/◌, ◌%◌, List, [], ◌∷◌, ◌++◌, length, map, nat_eq, nat_le, decimal, codes, Option, Some, None, if◌then◌else◌}
use Rattle.std.specs.List.{concat}
use Rattle.cf_print.specs.Pieces.{joined}

-- what is written for each of n numbers from i on
abbrev pub each : (ℕ → List ℕ) → ℕ → ℕ → List ℕ
each f i zero = []
each f i (suc n) = f i ++ each f (i + 1) n

-- a name behind another
abbrev pub dotted : List ℕ → List ℕ → List ℕ
dotted name part = concat (name ∷ codes "." ∷ part ∷ [])

-- parameters, all of them numbers
abbrev pub declared : List ℕ → List ℕ
declared x = concat (codes "(" ∷ x ∷ codes " Int)" ∷ [])

abbrev pub all_declared : List (List ℕ) → List ℕ
all_declared xs = joined (codes " ") (map declared xs)

-- a function of some terms
abbrev pub call_with : List ℕ → List ℕ → List ℕ
call_with f terms = concat (codes "(" ∷ f ∷ codes " " ∷ terms ∷ codes ")" ∷ [])

abbrev pub call_text : List ℕ → List (List ℕ) → List ℕ
call_text f [] = f
call_text f (x ∷ xs) = call_with f (joined (codes " ") (x ∷ xs))

abbrev pub denied : List ℕ → List ℕ
denied t = concat (codes "(not " ∷ t ∷ codes ")" ∷ [])

-- all of some terms hold
abbrev pub and_of : List ℕ → List ℕ
and_of terms = concat (codes "(and " ∷ terms ∷ codes ")" ∷ [])

abbrev pub all_of : List (List ℕ) → List ℕ
all_of [] = codes "true"
all_of (x ∷ xs) = if nat_eq (length xs) 0 then x else and_of (joined (codes " ") (x ∷ xs))

-- a definition, whose body stands behind some space
abbrev pub define_head : List ℕ → List ℕ → List ℕ → List ℕ
define_head name params sort = concat (codes "(define-fun " ∷ name ∷ codes " (" ∷ params ∷ codes ") " ∷ sort ∷ [])

abbrev pub define_text : List ℕ → List (List ℕ) → List ℕ → List ℕ → List ℕ → List ℕ
define_text name params sort space body =
    define_head name (all_declared params) sort ++ concat (space ∷ body ∷ codes ")\n" ∷ [])

unfoldable pub constant : List ℕ → List ℕ
constant x = concat (codes "(declare-const " ∷ x ∷ codes " Int)\n" ∷ [])

abbrev pub constants : List (List ℕ) → List ℕ
constants [] = []
constants (x ∷ xs) = constant x ++ constants xs

abbrev pub asserted : List ℕ → List ℕ
asserted t = concat (codes "(assert " ∷ t ∷ codes ")\n" ∷ [])

abbrev pub all_asserted : List (List ℕ) → List ℕ
all_asserted [] = []
all_asserted (t ∷ ts) = asserted t ++ all_asserted ts

-- a variable lies below a bound
abbrev pub below_digits : List ℕ → List ℕ → List ℕ
below_digits x digits = concat (codes "(and (<= 0 " ∷ x ∷ codes ") (< " ∷ x ∷ codes " " ∷ digits ∷ codes "))" ∷ [])

abbrev pub below_text : List ℕ → ℕ → List ℕ
below_text x bound = below_digits x (decimal bound)

abbrev pub all_below : List (List ℕ) → List ℕ → List (List ℕ)
all_below (x ∷ xs) (b ∷ bounds) = below_text x b ∷ all_below xs bounds
all_below _ _ = []

-- ---- tuples of searches
-- how many tuples lie below the bounds, n for each of them, where they are at most 64: so many are written out, and more stand behind a quantifier
abbrev pub few_below : ℕ → List ℕ → Option ℕ
few_below n [] = if nat_le n 64 then Some n else None
few_below n (b ∷ bounds) = if nat_le n 64 then few_below (n * b) bounds else None

-- the i-th tuple below the bounds; the first number changes soonest
abbrev pub lowest : ℕ → ℕ → ℕ
lowest b i = if nat_eq b 0 then 0 else i % b

abbrev pub behind_lowest : ℕ → ℕ → ℕ
behind_lowest b i = if nat_eq b 0 then i else i / b

abbrev pub tuple_texts : List ℕ → ℕ → List (List ℕ)
tuple_texts [] i = []
tuple_texts (b ∷ bounds) i = decimal (lowest b i) ∷ tuple_texts bounds (behind_lowest b i)
