-- The atoms of wide relations, each with the alternatives of its sides, and forms without new forms.
use Rattle.std.specs.Prelude.{List, []}
use Rattle.cf_tree.specs.RelTree.{SetTree, empty_set, set_var, union_of, inter_of, diff_of, TermTree, term_lit, term_var, term_card, term_neg, term_add, term_sub, term_mul, term_div, term_mod, term_abs, RelTree, rel_false, rel_compare, rel_same_set, rel_other_set, rel_subset, rel_divides}
use Rattle.cf_form.specs.declared.join.Sign.{Sign}
use Rattle.cf_form.specs.Alternatives.{Guarded, over_one, over_two}
use Rattle.cf_form.specs.Joined.{signed_of}
use Rattle.cf_form.specs.Polarity.{Truths, alternatives, set_alternatives}
use Rattle.cf_form.specs.Wide.{WideTerm, wide_lit, wide_var, wide_card, wide_neg, wide_add, wide_sub, wide_mul, wide_div, wide_mod, wide_abs, wide_if, wide_min, wide_max, WideSet, wide_empty, wide_set, wide_union, wide_inter, wide_diff, wide_if_set, WideRel, wide_compare, wide_same_set, wide_other_set, wide_subset, wide_divides}

abbrev pub atoms : Truths → WideRel → List (Guarded RelTree)
atoms truths (wide_compare o a b) = over_two (rel_compare o) (alternatives truths a) (alternatives truths b)
atoms truths (wide_same_set a b) = over_two rel_same_set (set_alternatives truths a) (set_alternatives truths b)
atoms truths (wide_other_set a b) = over_two rel_other_set (set_alternatives truths a) (set_alternatives truths b)
atoms truths (wide_subset a b) = over_two rel_subset (set_alternatives truths a) (set_alternatives truths b)
atoms truths (wide_divides k t) = over_one (rel_divides k) (alternatives truths t)
atoms truths _ = []

-- ---- the same form or relation of other parts
abbrev pub set_over_two : WideSet → SetTree → SetTree → SetTree
set_over_two (wide_union a b) = union_of
set_over_two (wide_inter a b) = inter_of
set_over_two _ = diff_of

abbrev pub term_over_one : WideTerm → TermTree → TermTree
term_over_one (wide_neg a) = term_neg
term_over_one (wide_div a k) = λ t. term_div t k
term_over_one (wide_mod a k) = λ t. term_mod t k
term_over_one _ = term_abs

abbrev pub term_over_two : WideTerm → TermTree → TermTree → TermTree
term_over_two (wide_add a b) = term_add
term_over_two (wide_sub a b) = term_sub
term_over_two _ = term_mul

abbrev pub rel_over_sets : WideRel → SetTree → SetTree → RelTree
rel_over_sets (wide_same_set a b) = rel_same_set
rel_over_sets (wide_other_set a b) = rel_other_set
rel_over_sets _ = rel_subset

-- ---- what a form without new forms is
abbrev pub plain_set : WideSet → SetTree
plain_set wide_empty = empty_set
plain_set (wide_set x) = set_var x
plain_set (wide_union a b) = union_of (plain_set a) (plain_set b)
plain_set (wide_inter a b) = inter_of (plain_set a) (plain_set b)
plain_set (wide_diff a b) = diff_of (plain_set a) (plain_set b)
plain_set (wide_if_set c a b) = plain_set a

abbrev pub plain_term : WideTerm → TermTree
plain_term (wide_lit k) = term_lit k
plain_term (wide_var x) = term_var x
plain_term (wide_card s) = term_card (plain_set s)
plain_term (wide_neg a) = term_neg (plain_term a)
plain_term (wide_add a b) = term_add (plain_term a) (plain_term b)
plain_term (wide_sub a b) = term_sub (plain_term a) (plain_term b)
plain_term (wide_mul a b) = term_mul (plain_term a) (plain_term b)
plain_term (wide_div a k) = term_div (plain_term a) k
plain_term (wide_mod a k) = term_mod (plain_term a) k
plain_term (wide_abs a) = term_abs (plain_term a)
plain_term (wide_if c a b) = plain_term a
plain_term (wide_min ts) = term_var 0
plain_term (wide_max ts) = term_var 0

-- an atom without new forms, or its negation; of another relation nothing is said by it
abbrev pub plain_atom : Sign → WideRel → RelTree
plain_atom sign (wide_compare o a b) = signed_of sign (rel_compare o (plain_term a) (plain_term b))
plain_atom sign (wide_same_set a b) = signed_of sign (rel_same_set (plain_set a) (plain_set b))
plain_atom sign (wide_other_set a b) = signed_of sign (rel_other_set (plain_set a) (plain_set b))
plain_atom sign (wide_subset a b) = signed_of sign (rel_subset (plain_set a) (plain_set b))
plain_atom sign (wide_divides k t) = signed_of sign (rel_divides k (plain_term t))
plain_atom sign _ = rel_false
