-- Worked examples that hold down which variables occur in a relation.
use Rattle.std.specs.Prelude.{pos, ◌≡◌, Bool, true, false, List, [], ◌∷◌, map}
use Rattle.std.proofs.Common.{refl}
use Rattle.cf_tree.specs.declared.base.Order.TheVariants.{Lt}
use Rattle.cf_tree.specs.Occurs.{set_holds, term_holds, rel_holds}
use Rattle.cf_tree.specs.RelTree.{SetTree, empty_set, set_var, union_of, inter_of, diff_of, TermTree, term_lit, term_var, term_card, term_neg, term_add, term_sub, term_mul, term_div, term_mod, term_abs, RelTree, rel_true, rel_false, rel_compare, rel_same_set, rel_other_set, rel_subset, rel_divides, rel_and, rel_or, rel_not}

-- of the variables 0, 1 and 2 the first, or the first two
abbrev first : List Bool
first = true ∷ false ∷ false ∷ []

abbrev two : List Bool
two = true ∷ true ∷ false ∷ []

abbrev none : List Bool
none = false ∷ false ∷ false ∷ []

abbrev in_set : SetTree → List Bool
in_set s = map (λ x. set_holds x s) (0 ∷ 1 ∷ 2 ∷ [])

abbrev in_term : TermTree → List Bool
in_term t = map (λ x. term_holds x t) (0 ∷ 1 ∷ 2 ∷ [])

abbrev in_rel : RelTree → List Bool
in_rel r = map (λ x. rel_holds x r) (0 ∷ 1 ∷ 2 ∷ [])

abbrev a : SetTree
a = set_var 0

abbrev b : SetTree
b = set_var 1

abbrev x : TermTree
x = term_var 0

abbrev y : TermTree
y = term_var 1

sets : (in_set empty_set ≡ none) × (in_set a ≡ first) × (in_set (union_of a b) ≡ two) × (in_set (inter_of a b) ≡ two) × (in_set (diff_of a b) ≡ two)
sets = (refl, refl, refl, refl, refl)

terms : (in_term (term_lit (pos 1)) ≡ none) × (in_term x ≡ first) × (in_term (term_card a) ≡ first) × (in_term (term_neg x) ≡ first)
    × (in_term (term_add x y) ≡ two) × (in_term (term_sub x y) ≡ two) × (in_term (term_mul x y) ≡ two) × (in_term (term_div x (pos 1)) ≡ first)
    × (in_term (term_mod x (pos 1)) ≡ first) × (in_term (term_abs x) ≡ first)
terms = (refl, refl, refl, refl, refl, refl, refl, refl, refl, refl)

abbrev p : RelTree
p = rel_divides (pos 2) x

abbrev q : RelTree
q = rel_divides (pos 2) y

relations : (in_rel rel_true ≡ none) × (in_rel rel_false ≡ none) × (in_rel (rel_compare Lt x y) ≡ two) × (in_rel (rel_same_set a b) ≡ two)
    × (in_rel (rel_other_set a b) ≡ two) × (in_rel (rel_subset a b) ≡ two) × (in_rel p ≡ first) × (in_rel (rel_and p q) ≡ two)
    × (in_rel (rel_or p q) ≡ two) × (in_rel (rel_not p) ≡ first)
relations = (refl, refl, refl, refl, refl, refl, refl, refl, refl, refl)
