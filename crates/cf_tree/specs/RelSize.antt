-- The sizes and depths of relations and of their parts: how many nodes a tree has, and 1 for a leaf and 1 more than the deepest part for any other node.
use Rattle.std.specs.Prelude.{ℕ, ◌+◌, ◌-◌, ◌^◌, max, min}
use Rattle.cf_tree.specs.RelTree.{SetTree, empty_set, set_var, union_of, inter_of, diff_of, TermTree, term_lit, term_var, term_card, term_neg, term_add, term_sub, term_mul, term_div, term_mod, term_abs, RelTree, rel_true, rel_false, rel_compare, rel_same_set, rel_other_set, rel_subset, rel_divides, rel_and, rel_or, rel_not}

-- a count that stands still at the greatest 64-bit number
abbrev pub capped : ℕ → ℕ
capped n = min n (2 ^ 64 - 1)

abbrev pub set_size : SetTree → ℕ
set_size empty_set = 1
set_size (set_var x) = 1
set_size (union_of a b) = 1 + set_size a + set_size b
set_size (inter_of a b) = 1 + set_size a + set_size b
set_size (diff_of a b) = 1 + set_size a + set_size b

abbrev pub term_size : TermTree → ℕ
term_size (term_lit k) = 1
term_size (term_var x) = 1
term_size (term_card a) = 1 + set_size a
term_size (term_neg a) = 1 + term_size a
term_size (term_add a b) = 1 + term_size a + term_size b
term_size (term_sub a b) = 1 + term_size a + term_size b
term_size (term_mul a b) = 1 + term_size a + term_size b
term_size (term_div a k) = 1 + term_size a
term_size (term_mod a k) = 1 + term_size a
term_size (term_abs a) = 1 + term_size a

abbrev pub rel_size : RelTree → ℕ
rel_size rel_true = 1
rel_size rel_false = 1
rel_size (rel_compare o a b) = 1 + term_size a + term_size b
rel_size (rel_same_set a b) = 1 + set_size a + set_size b
rel_size (rel_other_set a b) = 1 + set_size a + set_size b
rel_size (rel_subset a b) = 1 + set_size a + set_size b
rel_size (rel_divides k a) = 1 + term_size a
rel_size (rel_and a b) = 1 + rel_size a + rel_size b
rel_size (rel_or a b) = 1 + rel_size a + rel_size b
rel_size (rel_not a) = 1 + rel_size a

abbrev pub set_depth : SetTree → ℕ
set_depth empty_set = 1
set_depth (set_var x) = 1
set_depth (union_of a b) = 1 + max (set_depth a) (set_depth b)
set_depth (inter_of a b) = 1 + max (set_depth a) (set_depth b)
set_depth (diff_of a b) = 1 + max (set_depth a) (set_depth b)

abbrev pub term_depth : TermTree → ℕ
term_depth (term_lit k) = 1
term_depth (term_var x) = 1
term_depth (term_card a) = 1 + set_depth a
term_depth (term_neg a) = 1 + term_depth a
term_depth (term_add a b) = 1 + max (term_depth a) (term_depth b)
term_depth (term_sub a b) = 1 + max (term_depth a) (term_depth b)
term_depth (term_mul a b) = 1 + max (term_depth a) (term_depth b)
term_depth (term_div a k) = 1 + term_depth a
term_depth (term_mod a k) = 1 + term_depth a
term_depth (term_abs a) = 1 + term_depth a

abbrev pub rel_depth : RelTree → ℕ
rel_depth rel_true = 1
rel_depth rel_false = 1
rel_depth (rel_compare o a b) = 1 + max (term_depth a) (term_depth b)
rel_depth (rel_same_set a b) = 1 + max (set_depth a) (set_depth b)
rel_depth (rel_other_set a b) = 1 + max (set_depth a) (set_depth b)
rel_depth (rel_subset a b) = 1 + max (set_depth a) (set_depth b)
rel_depth (rel_divides k a) = 1 + term_depth a
rel_depth (rel_and a b) = 1 + max (rel_depth a) (rel_depth b)
rel_depth (rel_or a b) = 1 + max (rel_depth a) (rel_depth b)
rel_depth (rel_not a) = 1 + rel_depth a
