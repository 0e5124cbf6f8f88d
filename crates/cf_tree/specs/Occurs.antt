-- Which variables occur in a relation.
use Rattle.std.specs.Prelude.{ℕ, Bool, false, ◌||◌, ◌==◌}
use Rattle.cf_tree.specs.RelTree.{SetTree, empty_set, set_var, union_of, inter_of, diff_of, TermTree, term_lit, term_var, term_card, term_neg, term_add, term_sub, term_mul, term_div, term_mod, term_abs, RelTree, rel_true, rel_false, rel_compare, rel_same_set, rel_other_set, rel_subset, rel_divides, rel_and, rel_or, rel_not}

abbrev pub set_holds : ℕ → SetTree → Bool
set_holds x empty_set = false
set_holds x (set_var y) = x == y
set_holds x (union_of a b) = set_holds x a || set_holds x b
set_holds x (inter_of a b) = set_holds x a || set_holds x b
set_holds x (diff_of a b) = set_holds x a || set_holds x b

abbrev pub term_holds : ℕ → TermTree → Bool
term_holds x (term_lit n) = false
term_holds x (term_var y) = x == y
term_holds x (term_card s) = set_holds x s
term_holds x (term_neg a) = term_holds x a
term_holds x (term_add a b) = term_holds x a || term_holds x b
term_holds x (term_sub a b) = term_holds x a || term_holds x b
term_holds x (term_mul a b) = term_holds x a || term_holds x b
term_holds x (term_div a k) = term_holds x a
term_holds x (term_mod a k) = term_holds x a
term_holds x (term_abs a) = term_holds x a

abbrev pub rel_holds : ℕ → RelTree → Bool
rel_holds x rel_true = false
rel_holds x rel_false = false
rel_holds x (rel_compare o a b) = term_holds x a || term_holds x b
rel_holds x (rel_same_set a b) = set_holds x a || set_holds x b
rel_holds x (rel_other_set a b) = set_holds x a || set_holds x b
rel_holds x (rel_subset a b) = set_holds x a || set_holds x b
rel_holds x (rel_divides k t) = term_holds x t
rel_holds x (rel_and a b) = rel_holds x a || rel_holds x b
rel_holds x (rel_or a b) = rel_holds x a || rel_holds x b
rel_holds x (rel_not a) = rel_holds x a
