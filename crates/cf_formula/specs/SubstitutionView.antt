-- The columns with the rows in their places that a substitution stands for.
use Rattle.std.specs.Prelude.{ℕ, List, map}
use Rattle.cf_linear.specs.Rows.{Row}
use Rattle.cf_formula.specs.declared.substitution.Replacement.{Replacement}

abbrev pub pair_of : Replacement → ℕ × Row
pair_of r = (r.column, r.row)

abbrev pub pairs_of : List Replacement → List (ℕ × Row)
pairs_of rs = map pair_of rs
