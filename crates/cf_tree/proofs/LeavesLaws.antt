-- A relation with its own variables is the same.
use Rattle.std.proofs.Common.{◌≡◌, refl, ap, ap₂}
use Rattle.cf_tree.specs.RelTree.{SetTree, empty_set, set_var, union_of, inter_of, diff_of, TermTree, term_lit, term_var, term_card, term_neg, term_add, term_sub, term_mul, term_div, term_mod, term_abs, RelTree, rel_true, rel_false, rel_compare, rel_same_set, rel_other_set, rel_subset, rel_divides, rel_and, rel_or, rel_not}
use Rattle.cf_tree.specs.Leaves.{set_with, term_with, rel_with}

pub set_itself : (s : SetTree) → set_with set_var s ≡ s
set_itself empty_set = refl
set_itself (set_var x) = refl
set_itself (union_of a b) = ap₂ union_of (set_itself a) (set_itself b)
set_itself (inter_of a b) = ap₂ inter_of (set_itself a) (set_itself b)
set_itself (diff_of a b) = ap₂ diff_of (set_itself a) (set_itself b)

pub term_itself : (t : TermTree) → term_with term_var set_var t ≡ t
term_itself (term_lit n) = refl
term_itself (term_var x) = refl
term_itself (term_card s) = ap term_card (set_itself s)
term_itself (term_neg a) = ap term_neg (term_itself a)
term_itself (term_add a b) = ap₂ term_add (term_itself a) (term_itself b)
term_itself (term_sub a b) = ap₂ term_sub (term_itself a) (term_itself b)
term_itself (term_mul a b) = ap₂ term_mul (term_itself a) (term_itself b)
term_itself (term_div a k) = ap (λ t. term_div t k) (term_itself a)
term_itself (term_mod a k) = ap (λ t. term_mod t k) (term_itself a)
term_itself (term_abs a) = ap term_abs (term_itself a)

pub rel_itself : (r : RelTree) → rel_with term_var set_var r ≡ r
rel_itself rel_true = refl
rel_itself rel_false = refl
rel_itself (rel_compare o a b) = ap₂ (rel_compare o) (term_itself a) (term_itself b)
rel_itself (rel_same_set a b) = ap₂ rel_same_set (set_itself a) (set_itself b)
rel_itself (rel_other_set a b) = ap₂ rel_other_set (set_itself a) (set_itself b)
rel_itself (rel_subset a b) = ap₂ rel_subset (set_itself a) (set_itself b)
rel_itself (rel_divides k t) = ap (rel_divides k) (term_itself t)
rel_itself (rel_and a b) = ap₂ rel_and (rel_itself a) (rel_itself b)
rel_itself (rel_or a b) = ap₂ rel_or (rel_itself a) (rel_itself b)
rel_itself (rel_not a) = ap rel_not (rel_itself a)
