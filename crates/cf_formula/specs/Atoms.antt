-- The atoms of rows, in normal form.
use Rattle.std.specs.Prelude.{ℕ, ◌+ℤ◌, ℤ, pos, negsuc, [], ◌∷◌, Bool, not, ◌&&◌, ◌||◌, nat_le, int_lt, if◌then◌else◌}
use Rattle.std.specs.Int.{int_div_euclid}
use Rattle.cf_linear.specs.Arm.{negated}
use Rattle.cf_linear.specs.Rows.{Row, entry, is_zero, comb, same_row, without}
use Rattle.cf_linear.specs.Steps.{common, divided, divides_it, one_at}
use Rattle.cf_formula.specs.Formulas.{Formula, always, never, at_least, equal}

-- the row without its constant
abbrev pub key : Row → Row
key r = without 0 r

-- no column but the constant
abbrev pub is_constant : Row → Bool
is_constant r = same_row (key r) []

-- divided by g, the constant rounded down
abbrev pub rounded : ℕ → Row → Row
rounded g r = comb (pos 1) (divided g (key r)) (int_div_euclid (entry r 0) (pos g)) (one_at 0)

-- divided by the greatest common divisor of the key
abbrev pub tight_row : Row → Row
tight_row r = (if nat_le (common (key r)) 1 then r else rounded (common (key r)) r)

-- the atom of r >= 0
abbrev pub ge : Row → Formula
ge r = (if is_constant r then (if int_lt (entry r 0) (pos 0) then never else always) else at_least (tight_row r))

abbrev pub first_entry : Row → ℤ
first_entry [] = pos 0
first_entry ((c, k) ∷ r) = k

-- with a key that begins above 0
abbrev pub upright : Row → Row
upright r = (if int_lt (first_entry (key r)) (pos 0) then negated r else r)

-- the divisor of the key divides the constant too
abbrev pub is_divided : Row → Bool
is_divided r = nat_le (common (key r)) 1 || divides_it (common (key r)) (entry r 0)

-- the atom of r == 0
abbrev pub eq : Row → Formula
eq r =
    (if is_constant r then (if is_zero (entry r 0) then always else never)
    else if is_divided r then equal (upright (tight_row r)) else never)

-- of opposite keys, and one of both is at least 0 at all whole numbers
abbrev pub are_opposite : Row → Row → Bool
are_opposite r s = same_row (key r) (negated (key s)) && not (int_lt (entry r 0 +ℤ entry s 0) (negsuc 0))
