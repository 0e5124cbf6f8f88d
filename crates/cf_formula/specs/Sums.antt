-- Sums of rows times numbers.
use Rattle.std.specs.Prelude.{◌≡◌, ℤ, pos, negsuc, neg_ℤ, ◌<ℤ◌, List, [], ◌∷◌}
use Rattle.cf_linear.specs.Rows.{Row, entry, comb}
use Rattle.cf_formula.specs.Atoms.{key}

abbrev pub sum_row : List (Row × ℤ) → Row
sum_row [] = []
sum_row ((r, k) ∷ parts) = comb k r (pos 1) (sum_row parts)

abbrev pub EachPart : (Row → ℤ → Type 0) → List (Row × ℤ) → Type 0
EachPart P [] = Unit {0}
EachPart P ((r, k) ∷ parts) = P r k × EachPart P parts

-- n times the row, less the sum, is a constant above -n
abbrev pub Follows : ℤ → Row → List (Row × ℤ) → Type 0
Follows n r parts = let d = comb n r (negsuc 0) (sum_row parts) in (pos 0 <ℤ n) × (key d ≡ []) × (neg_ℤ n <ℤ entry d 0)
