-- Tables in two parts.
use Rattle.std.proofs.Common.{◌≡◌, ℕ, zero, suc, true, false, List, [], ◌∷◌, take, drop, refl}
use Rattle.cf_help.specs.Rows.{Row, ◌gives◌, first_fitting, or_else}

pub split_rows : (n : ℕ) (rows : List Row) → or_else (first_fitting (take n rows)) (first_fitting (drop n rows)) ≡ first_fitting rows
split_rows zero rows = refl
split_rows (suc n) [] = refl
split_rows (suc n) ((true gives help) ∷ rows) = refl
split_rows (suc n) ((false gives help) ∷ rows) = split_rows n rows
