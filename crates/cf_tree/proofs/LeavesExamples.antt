-- Worked examples that hold down relations with other forms in the place of their variables.
use Rattle.std.specs.Prelude.{ℕ, suc, pos, ◌≡◌}
use Rattle.std.proofs.Common.{refl}
use Rattle.cf_tree.specs.declared.base.Order.TheVariants.{Lt}
use Rattle.cf_tree.specs.Leaves.{set_with, term_with, rel_with}
use Rattle.cf_tree.specs.RelTree.{SetTree, empty_set, set_var, union_of, inter_of, diff_of, TermTree, term_lit, term_var, term_card, term_neg, term_add, term_sub, term_mul, term_div, term_mod, term_abs, RelTree, rel_true, rel_false, rel_compare, rel_same_set, rel_other_set, rel_subset, rel_divides, rel_and, rel_or, rel_not}

-- a number variable becomes the literal of its level, and a set variable the next one
abbrev literal : ℕ → TermTree
literal x = term_lit (pos x)

abbrev next : ℕ → SetTree
next x = set_var (suc x)

abbrev changed_set : SetTree → SetTree
changed_set s = set_with next s

abbrev changed : TermTree → TermTree
changed t = term_with literal next t

abbrev changed_rel : RelTree → RelTree
changed_rel r = rel_with literal next r

abbrev a : SetTree
a = set_var 4

abbrev b : SetTree
b = set_var 6

abbrev a' : SetTree
a' = set_var 5

abbrev b' : SetTree
b' = set_var 7

abbrev x : TermTree
x = term_var 2

abbrev y : TermTree
y = term_var 3

abbrev two : TermTree
two = term_lit (pos 2)

abbrev three : TermTree
three = term_lit (pos 3)

sets : (changed_set empty_set ≡ empty_set) × (changed_set a ≡ a') × (changed_set (union_of a b) ≡ union_of a' b')
    × (changed_set (inter_of a b) ≡ inter_of a' b') × (changed_set (diff_of a b) ≡ diff_of a' b')
sets = (refl, refl, refl, refl, refl)

terms : (changed (term_lit (pos 9)) ≡ term_lit (pos 9)) × (changed x ≡ two) × (changed (term_card a) ≡ term_card a') × (changed (term_neg x) ≡ term_neg two)
    × (changed (term_add x y) ≡ term_add two three) × (changed (term_sub x y) ≡ term_sub two three) × (changed (term_mul x y) ≡ term_mul two three)
    × (changed (term_div x (pos 5)) ≡ term_div two (pos 5)) × (changed (term_mod x (pos 5)) ≡ term_mod two (pos 5)) × (changed (term_abs x) ≡ term_abs two)
terms = (refl, refl, refl, refl, refl, refl, refl, refl, refl, refl)

abbrev p : RelTree
p = rel_divides (pos 5) x

abbrev q : RelTree
q = rel_compare Lt x y

abbrev p' : RelTree
p' = rel_divides (pos 5) two

abbrev q' : RelTree
q' = rel_compare Lt two three

relations : (changed_rel rel_true ≡ rel_true) × (changed_rel rel_false ≡ rel_false) × (changed_rel q ≡ q') × (changed_rel p ≡ p')
    × (changed_rel (rel_same_set a b) ≡ rel_same_set a' b') × (changed_rel (rel_other_set a b) ≡ rel_other_set a' b')
    × (changed_rel (rel_subset a b) ≡ rel_subset a' b') × (changed_rel (rel_and p q) ≡ rel_and p' q') × (changed_rel (rel_or p q) ≡ rel_or p' q')
    × (changed_rel (rel_not p) ≡ rel_not p')
relations = (refl, refl, refl, refl, refl, refl, refl, refl, refl, refl)
