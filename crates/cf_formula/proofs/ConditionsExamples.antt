-- Rows in the places of columns, and conditions, round by round. Columns: 0 the constant, 1 a, 2 b, 3 x.
use Rattle.std.proofs.Common.{◌≡◌, ◌+◌, ◌^◌, ◌-◌, pos, negsuc, [], ◌∷◌, true, false, refl}
use Rattle.cf_num.specs.Divisors.{gcd_by}
use Rattle.cf_linear.specs.Rows.{Row, same_row}
use Rattle.cf_formula.specs.Formulas.{always, never, at_least, equal, both, either}
use Rattle.cf_formula.specs.Members.{unmarked}
use Rattle.cf_formula.specs.Rewriting.{some_atom}
use Rattle.cf_formula.specs.Simplifying.{round, is_last, simplified}
use Rattle.cf_formula.specs.States.{Conditions, some_row, nothing_but}
use Rattle.cf_formula.specs.Turns.{subst_rows, rows_pass}

-- x >= a
from_a : Row
from_a = (1, negsuc 0) ∷ (3, pos 1) ∷ []

-- x >= b
from_b : Row
from_b = (2, negsuc 0) ∷ (3, pos 1) ∷ []

-- x <= 10
to_ten : Row
to_ten = (0, pos 10) ∷ (3, negsuc 0) ∷ []

-- ---- marks
others : unmarked (true ∷ false ∷ true ∷ []) (always ∷ at_least from_a ∷ never ∷ []) ≡ at_least from_a ∷ []
unfolding from_a
others = refl

-- ---- one atom, one row
found : some_atom (same_row from_b) (either (both (at_least from_a) (equal from_b)) never) ≡ true
unfolding from_a from_b
found = refl

not_found : some_atom (same_row to_ten) (either (both (at_least from_a) (equal from_b)) never) ≡ false
unfolding from_a from_b to_ten
not_found = refl

-- ---- rows in the places of columns, the last one first: x is a + 1, and a is 2 * b
put_in_turn : subst_rows ((1, (2, pos 2) ∷ []) ∷ (3, (0, pos 1) ∷ (1, pos 1) ∷ []) ∷ []) to_ten ≡ (0, pos 9) ∷ (2, negsuc 1) ∷ []
unfolding to_ten
put_in_turn = refl

within : rows_pass ((1, (2, pos 2) ∷ []) ∷ (3, (0, pos 1) ∷ (1, pos 1) ∷ []) ∷ []) to_ten ≡ false
unfolding to_ten
within = refl

-- the greatest number times 2
past : rows_pass ((3, (1, pos 2) ∷ []) ∷ []) ((3, pos (2 ^ 127 - 1)) ∷ []) ≡ true
past = refl

-- ---- conditions
-- x >= a, and x >= a or x >= b
asked : Conditions
asked = record { equations = []; inequalities = from_a ∷ []; pending = either (at_least from_a) (at_least from_b) ∷ []; dead = false }

-- the `or` is settled, which is a change
settled_round : round [] asked ≡ record { equations = []; inequalities = from_a ∷ []; pending = []; dead = false }
unfolding asked from_a from_b
settled_round = refl

changes : is_last [] asked ≡ false
unfolding asked from_a from_b
changes = refl

-- x <= 10 and x >= 11
refuted : is_last (to_ten ∷ []) (record { equations = []; inequalities = ((0, negsuc 10) ∷ (3, pos 1) ∷ []) ∷ []; pending = []; dead = false }) ≡ true
unfolding to_ten
refuted = refl

in_the_end : simplified [] asked ≡ record { equations = []; inequalities = from_a ∷ []; pending = []; dead = false }
unfolding asked from_a from_b
in_the_end = refl

held : some_row (same_row from_b) asked ≡ true
unfolding asked from_a from_b
held = refl

not_held : some_row (same_row to_ten) asked ≡ false
unfolding asked from_a from_b to_ten
not_held = refl

nothing : some_row (same_row from_a) (nothing_but true) ≡ false
nothing = refl
