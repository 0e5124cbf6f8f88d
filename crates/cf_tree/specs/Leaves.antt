-- Relations with other forms in the place of their variables.
use Rattle.std.specs.Prelude.{ℕ}
use Rattle.cf_tree.specs.RelTree.{SetTree, empty_set, set_var, union_of, inter_of, diff_of, TermTree, term_lit, term_var, term_card, term_neg, term_add, term_sub, term_mul, term_div, term_mod, term_abs, RelTree, rel_true, rel_false, rel_compare, rel_same_set, rel_other_set, rel_subset, rel_divides, rel_and, rel_or, rel_not}

abbrev pub set_with : (ℕ → SetTree) → SetTree → SetTree
set_with g empty_set = empty_set
set_with g (set_var x) = g x
set_with g (union_of a b) = union_of (set_with g a) (set_with g b)
set_with g (inter_of a b) = inter_of (set_with g a) (set_with g b)
set_with g (diff_of a b) = diff_of (set_with g a) (set_with g b)

abbrev pub term_with : (ℕ → TermTree) → (ℕ → SetTree) → TermTree → TermTree
term_with f g (term_lit n) = term_lit n
term_with f g (term_var x) = f x
term_with f g (term_card s) = term_card (set_with g s)
term_with f g (term_neg a) = term_neg (term_with f g a)
term_with f g (term_add a b) = term_add (term_with f g a) (term_with f g b)
term_with f g (term_sub a b) = term_sub (term_with f g a) (term_with f g b)
term_with f g (term_mul a b) = term_mul (term_with f g a) (term_with f g b)
term_with f g (term_div a k) = term_div (term_with f g a) k
term_with f g (term_mod a k) = term_mod (term_with f g a) k
term_with f g (term_abs a) = term_abs (term_with f g a)

-- the relation with these number forms in the place of number variables, and these set forms in that of set variables
abbrev pub rel_with : (ℕ → TermTree) → (ℕ → SetTree) → RelTree → RelTree
rel_with f g rel_true = rel_true
rel_with f g rel_false = rel_false
rel_with f g (rel_compare o a b) = rel_compare o (term_with f g a) (term_with f g b)
rel_with f g (rel_same_set a b) = rel_same_set (set_with g a) (set_with g b)
rel_with f g (rel_other_set a b) = rel_other_set (set_with g a) (set_with g b)
rel_with f g (rel_subset a b) = rel_subset (set_with g a) (set_with g b)
rel_with f g (rel_divides k t) = rel_divides k (term_with f g t)
rel_with f g (rel_and a b) = rel_and (rel_with f g a) (rel_with f g b)
rel_with f g (rel_or a b) = rel_or (rel_with f g a) (rel_with f g b)
rel_with f g (rel_not a) = rel_not (rel_with f g a)
