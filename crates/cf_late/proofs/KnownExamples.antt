-- Relations whose scope is known, and which are linear then: each clause by an example.
use Rattle.std.proofs.Common.{◌≡◌, pos, negsuc, List, [], ◌∷◌, refl}
use Rattle.std.specs.Prelude.{true, false}
use Rattle.cf_tree.specs.declared.base.Order.TheVariants.{Eq, Le}
use Rattle.cf_tree.specs.RelTree.{RelTree, TermTree, SetTree, empty_set, set_var, union_of, rel_true, rel_false, rel_compare, rel_same_set, rel_other_set, rel_subset, rel_divides, rel_and, rel_or, rel_not, term_lit, term_var, term_card, term_neg, term_add, term_sub, term_mul, term_div, term_mod, term_abs}
use Rattle.cf_tree.specs.Values.{Value, number, elements}
use Rattle.cf_late.specs.At.{rel_known}
use Rattle.cf_program.specs.LateLinear.{is_fixed_below, IsLateLinearTerm, IsLateLinear}

-- a is 3, s is {1}, b is -2; x and y stand behind them
abbrev env : List Value
env = number (pos 3) ∷ elements (pos 1 ∷ []) ∷ number (negsuc 1) ∷ []

abbrev a : TermTree
a = term_var 0

abbrev s : SetTree
s = set_var 1

abbrev b : TermTree
b = term_var 2

abbrev x : TermTree
x = term_var 3

abbrev y : TermTree
y = term_var 4

abbrev three : TermTree
three = term_lit (pos 3)

abbrev minus_two : TermTree
minus_two = term_lit (negsuc 1)

-- ---- the literals of the values
abbrev is : TermTree → RelTree
is t = rel_compare Eq t x

-- a number form as the left side of an equation whose scope is known
abbrev known : TermTree → RelTree
known t = rel_known 3 (is t) env

known-variables : (known a ≡ is three) × (known b ≡ is minus_two) × (known x ≡ is x) × (known y ≡ is y)
known-variables = (refl, refl, refl, refl)

known-literal : known (term_lit (pos 7)) ≡ is (term_lit (pos 7))
known-literal = refl

known-sets_stay : known (term_card (union_of s (set_var 4))) ≡ is (term_card (union_of s (set_var 4)))
known-sets_stay = refl

known-parts : (known (term_neg a) ≡ is (term_neg three)) × (known (term_abs a) ≡ is (term_abs three)) × (known (term_add a b) ≡ is (term_add three minus_two))
    × (known (term_sub a b) ≡ is (term_sub three minus_two)) × (known (term_mul a b) ≡ is (term_mul three minus_two)) ×
    (known (term_mul a x) ≡ is (term_mul three x))
    × (known (term_div a (pos 2)) ≡ is (term_div three (pos 2))) × (known (term_mod a (pos 2)) ≡ is (term_mod three (pos 2)))
known-parts = (refl, refl, refl, refl, refl, refl, refl, refl)

known-sides : (rel_known 3 (rel_compare Le x b) env ≡ rel_compare Le x minus_two) × (rel_known 3 (rel_divides (pos 2) a) env ≡ rel_divides (pos 2) three)
known-sides = (refl, refl)

known-truth : (rel_known 3 rel_true env ≡ rel_true) × (rel_known 3 rel_false env ≡ rel_false) × (rel_known 3 (rel_not (is a)) env ≡ rel_not (is three))
    × (rel_known 3 (rel_and (is a) (is b)) env ≡ rel_and (is three) (is minus_two)) ×
    (rel_known 3 (rel_or (is a) (is b)) env ≡ rel_or (is three) (is minus_two))
known-truth = (refl, refl, refl, refl, refl)

known-set_relations : (rel_known 3 (rel_same_set s empty_set) env ≡ rel_same_set s empty_set) ×
    (rel_known 3 (rel_other_set s empty_set) env ≡ rel_other_set s empty_set)
    × (rel_known 3 (rel_subset s empty_set) env ≡ rel_subset s empty_set)
known-set_relations = (refl, refl, refl)

-- ---- what is fixed once the scope is known
fixed : (is_fixed_below 3 three ≡ true) × (is_fixed_below 3 a ≡ true) × (is_fixed_below 3 b ≡ true) × (is_fixed_below 3 (term_neg a) ≡ true)
    × (is_fixed_below 3 (term_abs a) ≡ true) × (is_fixed_below 3 (term_add a b) ≡ true) × (is_fixed_below 3 (term_sub a b) ≡ true)
    × (is_fixed_below 3 (term_mul a b) ≡ true)
fixed = (refl, refl, refl, refl, refl, refl, refl, refl)

varies : (is_fixed_below 3 x ≡ false) × (is_fixed_below 2 b ≡ false) × (is_fixed_below 0 a ≡ false) × (is_fixed_below 3 (term_card s) ≡ false)
    × (is_fixed_below 3 (term_div a (pos 2)) ≡ false) × (is_fixed_below 3 (term_mod a (pos 2)) ≡ false)
    × (is_fixed_below 3 (term_neg x) ≡ false) × (is_fixed_below 3 (term_abs x) ≡ false)
    × (is_fixed_below 3 (term_add x a) ≡ false) × (is_fixed_below 3 (term_add a x) ≡ false)
    × (is_fixed_below 3 (term_sub x a) ≡ false) × (is_fixed_below 3 (term_sub a x) ≡ false)
    × (is_fixed_below 3 (term_mul x a) ≡ false) × (is_fixed_below 3 (term_mul a x) ≡ false)
varies = (refl, refl, refl, refl, refl, refl, refl, refl, refl, refl, refl, refl, refl, refl)

-- ---- products with a fixed side, on either side; one of two outputs is not linear, wherever it stands
abbrev IsLate : TermTree → Type 0
IsLate t = IsLateLinearTerm 3 t

abbrev square : TermTree
square = term_mul x y

products : IsLate (term_mul a x) × IsLate (term_mul x a) × IsLate (term_mul (term_add a b) x) × IsLate (term_mul a b) × (IsLate square → ⊥)
    × (IsLate (term_mul (term_card s) x) → ⊥) × (IsLateLinearTerm 0 (term_mul a x) → ⊥)
products = ((tt, tt, refl), (tt, tt, refl), ((tt, tt), tt, refl), (tt, tt, refl), λ h. cc, λ h. cc, λ h. cc)

bent-terms : (IsLate (term_neg square) → ⊥) × (IsLate (term_abs square) → ⊥) × (IsLate (term_div square (pos 2)) → ⊥) × (IsLate (term_mod square (pos 2)) → ⊥)
    × (IsLate (term_add square x) → ⊥) × (IsLate (term_add x square) → ⊥) × (IsLate (term_sub square x) → ⊥) × (IsLate (term_sub x square) → ⊥)
    × (IsLate (term_mul square three) → ⊥) × (IsLate (term_mul three square) → ⊥)
bent-terms = (λ h. cc, λ h. cc, λ h. cc, λ h. cc, λ h. cc, λ h. cc, λ h. cc, λ h. cc, λ h. cc, λ h. cc)

late-terms : IsLate three × IsLate x × IsLate (term_card empty_set) × IsLate (term_div x (pos 2)) × IsLate (term_mod x (pos 2)) × IsLate (term_abs x)
late-terms = (tt, tt, tt, tt, tt, tt)

abbrev bend : RelTree
bend = is square

bent-relations : (IsLateLinear 3 bend → ⊥) × (IsLateLinear 3 (rel_compare Eq x square) → ⊥) × (IsLateLinear 3 (rel_divides (pos 2) square) → ⊥)
    × (IsLateLinear 3 (rel_not bend) → ⊥) × (IsLateLinear 3 (rel_and bend rel_true) → ⊥) × (IsLateLinear 3 (rel_and rel_true bend) → ⊥)
    × (IsLateLinear 3 (rel_or bend rel_true) → ⊥) × (IsLateLinear 3 (rel_or rel_true bend) → ⊥)
bent-relations = (λ h. cc, λ h. cc, λ h. cc, λ h. cc, λ h. cc, λ h. cc, λ h. cc, λ h. cc)

late-relations : IsLateLinear 3 rel_true × IsLateLinear 3 rel_false × IsLateLinear 3 (rel_same_set empty_set empty_set)
    × IsLateLinear 3 (rel_other_set empty_set empty_set) × IsLateLinear 3 (rel_subset empty_set empty_set) × IsLateLinear 3 (is (term_mul a x))
late-relations = (tt, tt, tt, tt, tt, ((tt, tt, refl), tt))
