-- What rows that are at least 0 say of a formula, each row by itself.
use Rattle.std.specs.Prelude.{ℤ, pos, ◌+ℤ◌, List, [], ◌∷◌, Bool, false, not, ◌&&◌, ◌||◌, Option, Some, None, int_lt, if◌then◌else◌}
use Rattle.std.specs.List.{list_any}
use Rattle.std.specs.Int.{int_min}
use Rattle.cf_linear.specs.Arm.{negated}
use Rattle.cf_linear.specs.Rows.{Row, entry, same_row}
use Rattle.cf_formula.specs.Formulas.{Formula, always, never, at_least, equal}
use Rattle.cf_formula.specs.Atoms.{key}
use Rattle.cf_formula.specs.Rewriting.{rewritten}

abbrev pub lesser : ℤ → Option ℤ → Option ℤ
lesser c None = Some c
lesser c (Some d) = Some (int_min c d)

-- the least constant of the rows with this key
abbrev pub best : List Row → Row → Option ℤ
best [] k = None
best (r ∷ rows) k = (if same_row (key r) k then lesser (entry r 0) (best rows k) else best rows k)

abbrev pub is_at_most : Option ℤ → ℤ → Bool
is_at_most None k = false
is_at_most (Some c) k = not (int_lt k c)

abbrev pub sums_below : Option ℤ → ℤ → Bool
sums_below None k = false
sums_below (Some c) k = int_lt (c +ℤ k) (pos 0)

-- one of the rows has the key of r and no greater constant
abbrev pub is_implied : List Row → Row → Bool
is_implied rows r = is_at_most (best rows (key r)) (entry r 0)

-- one of the rows and r have opposite keys, and their constants a sum below 0
abbrev pub is_excluded : List Row → Row → Bool
is_excluded rows r = sums_below (best rows (negated (key r))) (entry r 0)

-- one of the rows excludes one of them; a constant below 0 excludes itself
abbrev pub is_contradictory : List Row → Bool
is_contradictory rows = list_any (is_excluded rows) rows

abbrev pub settled_ge : List Row → Row → Formula
settled_ge rows r = (if is_implied rows r then always else if is_excluded rows r then never else at_least r)

abbrev pub settled_eq : List Row → Row → Formula
settled_eq rows r =
    (if is_excluded rows r || is_excluded rows (negated r) then never
    else if is_implied rows r && is_implied rows (negated r) then always else equal r)

-- the formula where each of the rows is at least 0
abbrev pub settled : List Row → Formula → Formula
settled rows f = rewritten (settled_ge rows) (settled_eq rows) f
