-- The test where a is 7 and s is {1, 4}, one clause after the other.
use Rattle.std.proofs.Common.{◌≡◌, refl, pos, negsuc, true, false, List, [], ◌∷◌}
use Rattle.cf_tree.specs.declared.base.Order.TheVariants.{Eq, Ne, Lt, Le}
use Rattle.cf_tree.specs.RelTree.{empty_set, set_var, union_of, diff_of, term_lit, term_var, term_card, term_add, term_mod, RelTree, rel_true, rel_false, rel_compare, rel_same_set, rel_other_set, rel_subset, rel_divides, rel_and, rel_or, rel_not}
use Rattle.cf_tree.specs.Values.{Value, number, elements}
use Rattle.cf_holds.specs.Truth.{divides, is_true}

abbrev at : List Value
at = number (pos 7) ∷ elements (pos 1 ∷ pos 4 ∷ []) ∷ []

-- ---- constants
always : is_true rel_true at ≡ true
always = refl

never : is_true rel_false at ≡ false
never = refl

-- ---- comparisons
-- a == card(s) + 5
abbrev sum : RelTree
sum = rel_compare Eq (term_var 0) (term_add (term_card (set_var 1)) (term_lit (pos 5)))

is_sum : is_true sum at ≡ true
is_sum = refl

less : is_true (rel_compare Lt (term_var 0) (term_lit (pos 7))) at ≡ false
less = refl

at_most : is_true (rel_compare Le (term_var 0) (term_lit (pos 7))) at ≡ true
at_most = refl

other : is_true (rel_compare Ne (term_mod (term_var 0) (pos 4)) (term_lit (pos 3))) at ≡ false
other = refl

-- ---- sets
same_set : is_true (rel_same_set (union_of empty_set (set_var 1)) (set_var 1)) at ≡ true
same_set = refl

other_set : is_true (rel_other_set (diff_of (set_var 1) (set_var 1)) (set_var 1)) at ≡ true
other_set = refl

subset : is_true (rel_subset (set_var 1) empty_set) at ≡ false
subset = refl

-- ---- multiples
multiple : is_true (rel_divides (pos 7) (term_var 0)) at ≡ true
multiple = refl

no_multiple : is_true (rel_divides (pos 2) (term_var 0)) at ≡ false
no_multiple = refl

of_negative : divides (negsuc 6) (pos 14) ≡ true
of_negative = refl

of_zero : divides (pos 0) (pos 14) ≡ false
of_zero = refl

-- ---- joined
both : is_true (rel_and sum rel_false) at ≡ false
both = refl

one : is_true (rel_or rel_false sum) at ≡ true
one = refl

negated : is_true (rel_not sum) at ≡ false
negated = refl
