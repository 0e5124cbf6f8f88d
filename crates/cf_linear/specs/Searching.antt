-- The equation of a search.
use Rattle.std.specs.Prelude.{ℕ, pos, negsuc, [], Bool, if◌then◌else◌}
use Rattle.cf_linear.specs.Rows.{Row, comb, without}

-- the rest of the bound, with the other signs for a lower one
abbrev pub equation_start : ℕ → Bool → Row → Row
equation_start x lower r = comb (if lower then negsuc 0 else pos 1) (without x r) (pos 0) []
