-- Unknowns that give way to rows, and to sums of as many new unknowns.
use Rattle.std.specs.Prelude.{ℕ, zero, suc, ◌+◌, ℤ, pos, ◌+ℤ◌, ◌*ℤ◌, List, [], ◌∷◌, map, Bool, false, ◌||◌}
use Rattle.cf_linear.specs.Rows.{Row, put, subst_row, subst_passes}
use Rattle.cf_linear.specs.Systems.{How, row_how}

-- ---- matrices as lists of rows; what is missing counts as 0
abbrev pub dot : List ℤ → List ℤ → ℤ
dot [] zs = pos 0
dot (k ∷ ks) [] = pos 0
dot (k ∷ ks) (z ∷ zs) = k *ℤ z +ℤ dot ks zs

abbrev pub plus : List ℤ → List ℤ → List ℤ
plus [] b = b
plus (x ∷ a) [] = x ∷ a
plus (x ∷ a) (y ∷ b) = (x +ℤ y) ∷ plus a b

-- the sum of rows times numbers
abbrev pub comb_rows : List ℤ → List (List ℤ) → List ℤ
comb_rows [] rows = []
comb_rows (k ∷ ks) [] = []
comb_rows (k ∷ ks) (r ∷ rows) = plus (map (λ m. k *ℤ m) r) (comb_rows ks rows)

abbrev pub times : List (List ℤ) → List (List ℤ) → List (List ℤ)
times ms ns = map (λ ks. comb_rows ks ns) ms

abbrev pub zero_row : ℕ → List ℤ
zero_row zero = []
zero_row (suc m) = pos 0 ∷ zero_row m

abbrev pub identity : ℕ → List (List ℤ)
identity zero = []
identity (suc m) = (pos 1 ∷ zero_row m) ∷ map (λ r. pos 0 ∷ r) (identity m)

-- ---- unknowns with their rows
abbrev pub subst_rows : List (ℕ × Row) → Row → Row
subst_rows [] r = r
subst_rows ((x, s) ∷ ps) r = subst_row x s (subst_rows ps r)

-- whether that, the last one first, makes a product or a sum past the limit
abbrev pub rows_pass : List (ℕ × Row) → Row → Bool
rows_pass [] r = false
rows_pass ((x, s) ∷ ps) r = rows_pass ps r || subst_passes x s (subst_rows ps r)

abbrev pub backs : List (ℕ × Row) → List (ℕ × How)
backs [] = []
backs ((x, s) ∷ ps) = (x, row_how s) ∷ backs ps

-- the row with the entries ks from column n on, as many as the second list has members
abbrev pub row_from : ℕ → List (List ℤ) → List ℤ → Row
row_from n [] ks = []
row_from n (a ∷ rest) [] = []
row_from n (a ∷ rest) (k ∷ ks) = put n k (row_from (n + 1) rest ks)

-- the unknowns xs as sums by ms of new ones from column n on, ns being the inverse of ms
abbrev pub turn_pairs : ℕ → List ℕ → List (List ℤ) → List (List ℤ) → List (ℕ × Row)
turn_pairs n [] ms ns = []
turn_pairs n (x ∷ xs) [] ns = []
turn_pairs n (x ∷ xs) (ks ∷ ms) ns = (x, row_from n ns ks) ∷ turn_pairs n xs ms ns
