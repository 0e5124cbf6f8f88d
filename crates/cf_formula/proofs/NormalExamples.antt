-- Atoms, `and` and `or` in normal form, and what rows settle. Columns: 0 the constant, 1 a, 2 b, 3 x.
use Rattle.std.proofs.Common.{◌≡◌, pos, negsuc, [], ◌∷◌, true, false, refl}
use Rattle.cf_num.specs.Divisors.{gcd_by}
use Rattle.cf_linear.specs.Rows.{Row}
use Rattle.cf_formula.specs.Formulas.{always, never, at_least, equal, both, either}
use Rattle.cf_formula.specs.Atoms.{ge, eq}
use Rattle.cf_formula.specs.Members.{unmarked, conj, disj}
use Rattle.cf_formula.specs.Rewriting.{substituted}
use Rattle.cf_formula.specs.Facts.{settled, is_contradictory}

-- x >= a
from_a : Row
from_a = (1, negsuc 0) ∷ (3, pos 1) ∷ []

-- x >= b
from_b : Row
from_b = (2, negsuc 0) ∷ (3, pos 1) ∷ []

-- x <= 10
to_ten : Row
to_ten = (0, pos 10) ∷ (3, negsuc 0) ∷ []

-- ---- atoms
-- 2 * a - 4 * x + 3 >= 0 is a - 2 * x + 1 >= 0
rounded : ge ((0, pos 3) ∷ (1, pos 2) ∷ (3, negsuc 3) ∷ []) ≡ at_least ((0, pos 1) ∷ (1, pos 1) ∷ (3, negsuc 1) ∷ [])
unfolding gcd_by
rounded = refl

below : ge ((0, negsuc 2) ∷ []) ≡ never
below = refl

nothing : ge [] ≡ always
nothing = refl

-- -2 * a + 4 * x + 6 == 0 is a - 2 * x - 3 == 0
turned_up : eq ((0, pos 6) ∷ (1, negsuc 1) ∷ (3, pos 4) ∷ []) ≡ equal ((0, negsuc 2) ∷ (1, pos 1) ∷ (3, negsuc 1) ∷ [])
unfolding gcd_by
turned_up = refl

-- 2 * a + 1 == 0
odd : eq ((0, pos 1) ∷ (1, pos 2) ∷ []) ≡ never
unfolding gcd_by
odd = refl

zero_is : eq [] ≡ always
zero_is = refl

two_is : eq ((0, pos 2) ∷ []) ≡ never
two_is = refl

-- ---- `and`
-- the `or` has a member in common, and x >= a stands twice
absorbed : conj (at_least from_a ∷ either (at_least from_b) (at_least from_a) ∷ at_least to_ten ∷ at_least from_a ∷ []) ≡
    both (at_least from_a) (at_least to_ten)
unfolding from_a from_b to_ten
absorbed = refl

flat : conj (at_least from_a ∷ always ∷ both (at_least from_b) (at_least to_ten) ∷ []) ≡ both (at_least from_a) (both (at_least from_b) (at_least to_ten))
unfolding from_a from_b to_ten
flat = refl

never_all : conj (at_least from_a ∷ never ∷ at_least from_b ∷ []) ≡ never
unfolding from_a from_b
never_all = refl

none : conj [] ≡ always
none = refl

-- ---- `or`
absorbed_or : disj (at_least from_a ∷ both (at_least from_b) (at_least from_a) ∷ at_least to_ten ∷ never ∷ at_least from_a ∷ []) ≡
    either (at_least from_a) (at_least to_ten)
unfolding from_a from_b to_ten
absorbed_or = refl

-- x >= a or x <= a - 1
everywhere : disj (at_least from_a ∷ at_least ((0, negsuc 0) ∷ (1, pos 1) ∷ (3, negsuc 0) ∷ []) ∷ []) ≡ always
unfolding from_a
everywhere = refl

-- x >= a or x <= a - 2
gap : disj (at_least from_a ∷ at_least ((0, negsuc 1) ∷ (1, pos 1) ∷ (3, negsuc 0) ∷ []) ∷ []) ≡
    either (at_least from_a) (at_least ((0, negsuc 1) ∷ (1, pos 1) ∷ (3, negsuc 0) ∷ []))
unfolding from_a
gap = refl

flat_or : disj (either (at_least from_a) (at_least from_b) ∷ both (at_least from_b) (at_least to_ten) ∷ either (at_least to_ten) (at_least from_b) ∷ []) ≡
    either (at_least from_a) (either (at_least from_b) (at_least to_ten))
unfolding from_a from_b to_ten
flat_or = refl

none_or : disj [] ≡ never
none_or = refl

one_always : disj (at_least from_a ∷ always ∷ []) ≡ always
unfolding from_a
one_always = refl

-- ---- marks
one_left : unmarked (true ∷ false ∷ true ∷ []) (always ∷ at_least from_a ∷ never ∷ []) ≡ at_least from_a ∷ []
unfolding from_a
one_left = refl

-- ---- rows in the place of columns, and facts
-- x = a in `x >= a && x >= b || x <= 10`
at_a : substituted 3 ((1, pos 1) ∷ []) (either (both (at_least from_a) (at_least from_b)) (at_least to_ten)) ≡
    either (at_least ((1, pos 1) ∷ (2, negsuc 0) ∷ [])) (at_least ((0, pos 10) ∷ (1, negsuc 0) ∷ []))
unfolding gcd_by from_a from_b to_ten
at_a = refl

-- a <= 5 settles a <= 7 and excludes a >= 8
settled_example : settled (((0, pos 5) ∷ (1, negsuc 0) ∷ []) ∷ []) (either (both (at_least ((0, pos 7) ∷ (1, negsuc 0) ∷ [])) (at_least from_b))
    (at_least ((0, negsuc 7) ∷ (1, pos 1) ∷ []))) ≡ at_least from_b
unfolding from_b
settled_example = refl

contradiction : is_contradictory (((0, negsuc 1) ∷ (1, pos 1) ∷ []) ∷ ((0, pos 1) ∷ (1, negsuc 0) ∷ []) ∷ []) ≡ true
contradiction = refl

touching : is_contradictory (((0, negsuc 1) ∷ (1, pos 1) ∷ []) ∷ ((0, pos 2) ∷ (1, negsuc 0) ∷ []) ∷ []) ≡ false
touching = refl
