-- The plain trees that relations and their parts stand for.
use Rattle.cf_tree.specs.RelTree.{SetTree, empty_set, set_var, union_of, inter_of, diff_of, TermTree, term_lit, term_var, term_card, term_neg, term_add, term_sub, term_mul, term_div, term_mod, term_abs, RelTree, rel_true, rel_false, rel_compare, rel_same_set, rel_other_set, rel_subset, rel_divides, rel_and, rel_or, rel_not}
use Rattle.cf_tree.specs.declared.rel.SetTerm.{SetTerm, Empty, Var, Union', Inter', Diff'}
use Rattle.cf_tree.specs.declared.rel.Term.{Term, Lit, Var as TermVar, Card, Neg', Add', Sub', Mul', Div', Mod', Abs'}
use Rattle.cf_tree.specs.declared.rel.Rel.{Rel, True, False, Compare, SameSet, OtherSet, Subset, Divides, And', Or', Not'}

abbrev pub set_tree : SetTerm → SetTree
set_tree Empty = empty_set
set_tree (Var x) = set_var x
set_tree (Union' p a q b) = union_of (set_tree a) (set_tree b)
set_tree (Inter' p a q b) = inter_of (set_tree a) (set_tree b)
set_tree (Diff' p a q b) = diff_of (set_tree a) (set_tree b)

abbrev pub term_tree : Term → TermTree
term_tree (Lit n) = term_lit n
term_tree (TermVar x) = term_var x
term_tree (Card s) = term_card (set_tree s.value)
term_tree (Neg' p a) = term_neg (term_tree a)
term_tree (Add' p a q b) = term_add (term_tree a) (term_tree b)
term_tree (Sub' p a q b) = term_sub (term_tree a) (term_tree b)
term_tree (Mul' p a q b) = term_mul (term_tree a) (term_tree b)
term_tree (Div' p a k) = term_div (term_tree a) k
term_tree (Mod' p a k) = term_mod (term_tree a) k
term_tree (Abs' p a) = term_abs (term_tree a)

abbrev pub rel_tree : Rel → RelTree
rel_tree True = rel_true
rel_tree False = rel_false
rel_tree (Compare order a b) = rel_compare order (term_tree a.value) (term_tree b.value)
rel_tree (SameSet a b) = rel_same_set (set_tree a.value) (set_tree b.value)
rel_tree (OtherSet a b) = rel_other_set (set_tree a.value) (set_tree b.value)
rel_tree (Subset a b) = rel_subset (set_tree a.value) (set_tree b.value)
rel_tree (Divides k a) = rel_divides k (term_tree a.value)
rel_tree (And' p a q b) = rel_and (rel_tree a) (rel_tree b)
rel_tree (Or' p a q b) = rel_or (rel_tree a) (rel_tree b)
rel_tree (Not' p a) = rel_not (rel_tree a)
