-- Worked examples: every form of a printed relation, with its words, spaces and parentheses.
use Rattle.std.proofs.Common.{◌≡◌, ℕ, pos, [], ◌∷◌, List, map, refl, codes}
use Rattle.std.specs.Prelude.{negsuc}
use Rattle.std.specs.Fmt.{digits}
use Rattle.cf_tree.specs.declared.base.Order.TheVariants.{Ge, Gt}
use Rattle.cf_tree.specs.RelTree.{SetTree, empty_set, set_var, union_of, inter_of, diff_of, TermTree, term_lit, term_var, term_card, term_neg, term_add, term_sub, term_mul, term_div, term_mod, term_abs, RelTree, rel_true, rel_false, rel_compare, rel_same_set, rel_other_set, rel_subset, rel_divides, rel_and, rel_or, rel_not}
use Rattle.cf_relation_text.specs.RelationText.{set_text, term_text, rel_text}

abbrev names : List (List ℕ)
names = codes "a" ∷ codes "b" ∷ codes "s" ∷ codes "t" ∷ []

abbrev a : TermTree
a = term_var 0

abbrev b : TermTree
b = term_var 1

abbrev s : SetTree
s = set_var 2

abbrev t : SetTree
t = set_var 3

abbrev more : RelTree
more = rel_compare Gt a b

sets : map (set_text names) (empty_set ∷ s ∷ union_of s t ∷ inter_of s t ∷ diff_of s t ∷ []) ≡
    codes "{}" ∷ codes "s" ∷ codes "s union t" ∷ codes "s inter t" ∷ codes "s diff t" ∷ []
sets = refl

-- operations of one row group to the left
grouped_sets : map (set_text names) (diff_of (union_of s t) s ∷ union_of s (diff_of t s) ∷ inter_of (union_of s t) t ∷ inter_of s (inter_of t s) ∷ []) ≡
    codes "s union t diff s" ∷ codes "s union (t diff s)" ∷ codes "(s union t) inter t" ∷ codes "s inter (t inter s)" ∷ []
grouped_sets = refl

numbers : map (term_text names) (term_lit (pos 10) ∷ term_lit (negsuc 9) ∷ b ∷ term_card s ∷ term_neg a ∷ term_abs a ∷ []) ≡
    codes "10" ∷ codes "-10" ∷ codes "b" ∷ codes "card(s)" ∷ codes "-a" ∷ codes "abs(a)" ∷ []
unfolding digits
numbers = refl

operations : map (term_text names) (term_add a b ∷ term_sub a b ∷ term_mul a b ∷ term_div a (pos 3) ∷ term_mod a (pos 4) ∷ []) ≡
    codes "a + b" ∷ codes "a - b" ∷ codes "a * b" ∷ codes "div(a, 3)" ∷ codes "mod(a, 4)" ∷ []
unfolding digits
operations = refl

grouped_numbers : map (term_text names)
    (term_sub (term_add a b) a ∷ term_sub a (term_add b a) ∷ term_mul (term_lit (pos 2)) (term_add a b) ∷ term_mul a (term_neg b) ∷ term_neg (term_mul a b)
    ∷ term_add (term_mul (term_lit (pos 2)) a) (term_lit (pos 3)) ∷ term_div (term_add a b) (pos 3) ∷ []) ≡
    codes "a + b - a" ∷ codes "a - (b + a)" ∷ codes "2 * (a + b)" ∷ codes "a * -b" ∷ codes "-(a * b)" ∷ codes "2 * a + 3" ∷ codes "div(a + b, 3)" ∷ []
unfolding digits
grouped_numbers = refl

relations : map (rel_text names)
    (rel_true ∷ rel_false ∷ rel_compare Ge a (term_add b a) ∷ rel_same_set s (union_of s t) ∷ rel_other_set s t
    ∷ rel_subset s t ∷ rel_divides (pos 3) (term_sub a b)
    ∷ []) ≡
    codes "true" ∷ codes "false" ∷ codes "a >= b + a" ∷ codes "s == s union t" ∷ codes "s != t" ∷ codes "s subset t" ∷ codes "3 divides a - b" ∷ []
unfolding digits
relations = refl

connectives : map (rel_text names)
    (rel_and more rel_true ∷ rel_or more rel_true ∷ rel_not more ∷ rel_not rel_true ∷ rel_not (rel_not rel_true) ∷ []) ≡
    codes "a > b && true" ∷ codes "a > b || true" ∷ codes "!(a > b)" ∷ codes "!true" ∷ codes "!!true" ∷ []
connectives = refl

grouped_relations : map (rel_text names)
    (rel_and (rel_and more more) more ∷ rel_and more (rel_and more more) ∷ rel_and (rel_or more more) more ∷ rel_or (rel_and more more) more
    ∷ rel_or more (rel_or more more) ∷ rel_or more (rel_and more more) ∷ []) ≡
    codes "a > b && a > b && a > b" ∷ codes "a > b && (a > b && a > b)" ∷ codes "(a > b || a > b) && a > b" ∷ codes "a > b && a > b || a > b"
    ∷ codes "a > b || (a > b || a > b)" ∷ codes "a > b || a > b && a > b" ∷ []
grouped_relations = refl
