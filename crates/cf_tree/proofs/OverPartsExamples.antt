-- Worked examples that hold down forms over other parts.
use Rattle.std.specs.Prelude.{pos, ◌≡◌, [], ◌∷◌}
use Rattle.std.proofs.Common.{refl}
use Rattle.cf_tree.specs.declared.base.Order.TheVariants.{Ge}
use Rattle.cf_tree.specs.CodeTree.{CodeTree, code_var, code_set_of, code_tuple, code_sum, code_sub, code_mul, code_neg, code_div, code_mod, code_min, code_max, code_compare, code_divides, code_and, code_or, code_not, code_union, code_inter, code_diff, code_subset, code_card, code_slice, code_fresh, code_if, code_let, CodeTrees, codes_of}
use Rattle.cf_tree.specs.OverParts.{over_list, over_one, over_two, over_three, HasList, HasOnePart, HasTwoParts, HasThreeParts}

abbrev a : CodeTree
a = code_var 0

abbrev b : CodeTree
b = code_var 1

abbrev c : CodeTree
c = code_var 2

abbrev d : CodeTree
d = code_var 3

abbrev e : CodeTree
e = code_var 4

abbrev f : CodeTree
f = code_var 5

abbrev own : CodeTrees
own = codes_of (a ∷ b ∷ [])

abbrev other : CodeTrees
other = codes_of (c ∷ d ∷ e ∷ [])

-- each form over other parts, and a form that has no such parts
over_lists : (over_list (code_set_of own) other ≡ code_set_of other) × (over_list (code_tuple own) other ≡ code_tuple other)
    × (over_list (code_sum own) other ≡ code_sum other) × (over_list (code_min own) other ≡ code_min other)
    × (over_list (code_max own) other ≡ code_max other) × (over_list (code_union own) other ≡ code_union other)
    × (over_list (code_inter own) other ≡ code_inter other) × (over_list a other ≡ a)
over_lists = (refl, refl, refl, refl, refl, refl, refl, refl)

over_ones : (over_one (code_neg a) b ≡ code_neg b) × (over_one (code_div a (pos 3)) b ≡ code_div b (pos 3))
    × (over_one (code_mod a (pos 3)) b ≡ code_mod b (pos 3)) × (over_one (code_divides (pos 3) a) b ≡ code_divides (pos 3) b)
    × (over_one (code_not a) b ≡ code_not b) × (over_one (code_card a) b ≡ code_card b) × (over_one (code_sub a b) c ≡ code_sub a b)
over_ones = (refl, refl, refl, refl, refl, refl, refl)

over_twos : (over_two (code_sub a b) c d ≡ code_sub c d) × (over_two (code_mul a b) c d ≡ code_mul c d)
    × (over_two (code_compare Ge a b) c d ≡ code_compare Ge c d) × (over_two (code_and a b) c d ≡ code_and c d)
    × (over_two (code_or a b) c d ≡ code_or c d) × (over_two (code_diff a b) c d ≡ code_diff c d) × (over_two (code_subset a b) c d ≡ code_subset c d)
    × (over_two (code_fresh a b) c d ≡ code_fresh c d) × (over_two (code_let 4 2 a b) c d ≡ code_let 4 2 c d)
    × (over_two (code_neg a) b c ≡ code_neg a)
over_twos = (refl, refl, refl, refl, refl, refl, refl, refl, refl, refl)

over_threes : (over_three (code_slice a b c) d e f ≡ code_slice d e f) × (over_three (code_if a b c) d e f ≡ code_if d e f)
    × (over_three (code_neg a) b c d ≡ code_neg a)
over_threes = (refl, refl, refl)

-- which parts a form has
lists : HasList (code_set_of own) × HasList (code_tuple own) × HasList (code_sum own) × HasList (code_min own) × HasList (code_max own)
    × HasList (code_union own) × HasList (code_inter own)
lists = (tt, tt, tt, tt, tt, tt, tt)

ones : HasOnePart (code_neg a) × HasOnePart (code_div a (pos 3)) × HasOnePart (code_mod a (pos 3)) × HasOnePart (code_divides (pos 3) a)
    × HasOnePart (code_not a) × HasOnePart (code_card a)
ones = (tt, tt, tt, tt, tt, tt)

twos : HasTwoParts (code_sub a b) × HasTwoParts (code_mul a b) × HasTwoParts (code_compare Ge a b) × HasTwoParts (code_and a b)
    × HasTwoParts (code_or a b) × HasTwoParts (code_diff a b) × HasTwoParts (code_subset a b) × HasTwoParts (code_fresh a b)
    × HasTwoParts (code_let 4 2 a b)
twos = (tt, tt, tt, tt, tt, tt, tt, tt, tt)

threes : HasThreeParts (code_slice a b c) × HasThreeParts (code_if a b c)
threes = (tt, tt)

no_others : (HasList (code_neg a) → ⊥) × (HasOnePart (code_sub a b) → ⊥) × (HasTwoParts (code_neg a) → ⊥) × (HasThreeParts (code_sub a b) → ⊥)
no_others = (λ h. h, λ h. h, λ h. h, λ h. h)
