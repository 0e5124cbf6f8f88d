-- Relations over two sets s and t of levels 0 and 1 and a number of level 2; the counts of what is in s alone, in t alone and in both have levels 3, 4 and 5.
use Rattle.std.proofs.Common.{◌≡◌, pos, refl, [], ◌∷◌}
use Rattle.cf_tree.specs.declared.base.Base.TheVariants.{Int}
use Rattle.cf_tree.specs.declared.base.Order.TheVariants.{Lt, Ge}
use Rattle.cf_tree.specs.RelTree.{SetTree, empty_set, set_var, union_of, inter_of, TermTree, term_lit, term_var, term_card, term_neg, term_add, term_sub, term_mul, term_div, term_mod, term_abs, RelTree, rel_true, rel_false, rel_compare, rel_same_set, rel_other_set, rel_subset, rel_divides, rel_and, rel_or, rel_not}
use Rattle.cf_linear.specs.Layout.{Layout}
use Rattle.cf_counts.specs.Counted.{count_level, sum_of, size_of, apart, is_some, counted_term, counted, are_counts, over_counts, count_bases}

abbrev two_sets : Layout
two_sets = record { scope = 3; numbers = 2 ∷ []; inputs = 0 ∷ 1 ∷ []; out_numbers = []; out_sets = [] }

abbrev s : SetTree
s = set_var 0

abbrev t : SetTree
t = set_var 1

abbrev term : TermTree → TermTree
term = counted_term two_sets 3

abbrev over : RelTree → RelTree
over = counted two_sets 3

-- ---- sums
abbrev zero_more : TermTree
zero_more = term_lit (pos 0)

in_both_level : count_level 3 3 ≡ 5
in_both_level = refl

sum_of_two : sum_of (4 ∷ 2 ∷ []) ≡ term_add (term_var 4) (term_add (term_var 2) zero_more)
sum_of_two = refl

size_of_s : size_of two_sets 3 s ≡ term_add (term_var 3) (term_add (term_var 5) zero_more)
size_of_s = refl

size_of_all : size_of two_sets 3 (union_of s t) ≡ term_add (term_var 3) (term_add (term_var 4) (term_add (term_var 5) zero_more))
size_of_all = refl

size_of_none : size_of two_sets 3 empty_set ≡ zero_more
size_of_none = refl

size_apart : size_of two_sets 3 (apart s t) ≡ term_add (term_var 3) (term_add (term_var 4) zero_more)
size_apart = refl

some_of_t : is_some two_sets 3 t ≡ rel_compare Ge (term_add (term_var 4) (term_add (term_var 5) zero_more)) (term_lit (pos 1))
some_of_t = refl

-- ---- number forms
abbrev both_size : TermTree
both_size = term_add (term_var 5) zero_more

card_term : term (term_card (inter_of s t)) ≡ both_size
card_term = refl

literal : term (term_lit (pos 7)) ≡ term_lit (pos 7)
literal = refl

number : term (term_var 2) ≡ term_var 2
number = refl

abbrev both_card : TermTree
both_card = term_card (inter_of s t)

negated : term (term_neg both_card) ≡ term_neg both_size
negated = refl

sum : term (term_add both_card (term_var 2)) ≡ term_add both_size (term_var 2)
sum = refl

difference : term (term_sub (term_var 2) both_card) ≡ term_sub (term_var 2) both_size
difference = refl

product : term (term_mul (term_lit (pos 3)) both_card) ≡ term_mul (term_lit (pos 3)) both_size
product = refl

quotient : term (term_div both_card (pos 2)) ≡ term_div both_size (pos 2)
quotient = refl

rest : term (term_mod both_card (pos 2)) ≡ term_mod both_size (pos 2)
rest = refl

size : term (term_abs both_card) ≡ term_abs both_size
size = refl

-- ---- relations
abbrev some_apart : RelTree
some_apart = rel_compare Ge (term_add (term_var 3) (term_add (term_var 4) zero_more)) (term_lit (pos 1))

truth : over rel_true ≡ rel_true
truth = refl

falsehood : over rel_false ≡ rel_false
falsehood = refl

comparison : over (rel_compare Lt both_card (term_var 2)) ≡ rel_compare Lt both_size (term_var 2)
comparison = refl

others : over (rel_other_set s t) ≡ some_apart
others = refl

same : over (rel_same_set s t) ≡ rel_not some_apart
same = refl

within : over (rel_subset s t) ≡ rel_not (rel_compare Ge (term_add (term_var 3) zero_more) (term_lit (pos 1)))
within = refl

division : over (rel_divides (pos 2) both_card) ≡ rel_divides (pos 2) both_size
division = refl

both : over (rel_and (rel_other_set s t) rel_true) ≡ rel_and some_apart rel_true
both = refl

either : over (rel_or rel_false (rel_other_set s t)) ≡ rel_or rel_false some_apart
either = refl

neither : over (rel_not (rel_other_set s t)) ≡ rel_not some_apart
neither = refl

-- ---- the whole
at_least : are_counts 3 (1 ∷ 3 ∷ []) ≡ rel_and (rel_compare Ge (term_var 3) zero_more) (rel_and (rel_compare Ge (term_var 5) zero_more) rel_true)
at_least = refl

whole : over_counts two_sets 3 (rel_other_set s t) ≡ rel_and (are_counts 3 (1 ∷ 2 ∷ 3 ∷ [])) some_apart
whole = refl

bases : count_bases two_sets ≡ Int ∷ Int ∷ Int ∷ []
bases = refl
