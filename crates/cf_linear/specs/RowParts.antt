-- Entries of a row divided.
use Rattle.std.specs.Prelude.{ℤ, unsigned_abs, Bool, ◌||◌, ◌==◌}
use Rattle.std.specs.List.{list_all}
use Rattle.std.specs.Int.{int_rem_euclid}
use Rattle.cf_linear.specs.Rows.{Row, is_zero}
use Rattle.cf_linear.specs.Steps.{divided}

-- whether g, above 0, divides each entry but that of column 0
abbrev pub divides_known : ℤ → Row → Bool
divides_known g r = list_all (λ (c, k). (c == 0) || is_zero (int_rem_euclid k g)) r

-- each entry divided by g, above 0, and rounded down
abbrev pub divided_by : ℤ → Row → Row
divided_by g r = divided (unsigned_abs g) r
