-- Worked examples that hold down set forms, number forms and relations over other parts.
use Rattle.std.specs.Prelude.{pos, ◌≡◌}
use Rattle.std.proofs.Common.{refl}
use Rattle.cf_tree.specs.OverTerms.{set_over_two, term_over_one, term_over_two, rel_over_sets, rel_over_two, SetHasTwoParts, TermHasOnePart, TermHasTwoParts, RelHasSets, RelHasTwoParts}
use Rattle.cf_tree.specs.RelTree.{SetTree, set_var, union_of, inter_of, diff_of, TermTree, term_var, term_neg, term_add, term_sub, term_mul, term_div, term_mod, term_abs, RelTree, rel_divides, rel_same_set, rel_other_set, rel_subset, rel_and, rel_or, rel_not}

abbrev a : SetTree
a = set_var 0

abbrev b : SetTree
b = set_var 1

abbrev c : SetTree
c = set_var 2

abbrev d : SetTree
d = set_var 3

abbrev s : TermTree
s = term_var 0

abbrev t : TermTree
t = term_var 1

abbrev u : TermTree
u = term_var 2

abbrev v : TermTree
v = term_var 3

abbrev p : RelTree
p = rel_divides (pos 2) s

abbrev q : RelTree
q = rel_divides (pos 2) t

abbrev r : RelTree
r = rel_divides (pos 2) u

abbrev w : RelTree
w = rel_divides (pos 2) v

-- each form over other parts, and a form that has no such parts
sets : (set_over_two (union_of a b) c d ≡ union_of c d) × (set_over_two (inter_of a b) c d ≡ inter_of c d)
    × (set_over_two (diff_of a b) c d ≡ diff_of c d) × (set_over_two a c d ≡ a)
sets = (refl, refl, refl, refl)

terms : (term_over_one (term_neg s) t ≡ term_neg t) × (term_over_one (term_div s (pos 3)) t ≡ term_div t (pos 3))
    × (term_over_one (term_mod s (pos 3)) t ≡ term_mod t (pos 3)) × (term_over_one (term_abs s) t ≡ term_abs t)
    × (term_over_one (term_add s t) u ≡ term_add s t)
    × (term_over_two (term_add s t) u v ≡ term_add u v) × (term_over_two (term_sub s t) u v ≡ term_sub u v)
    × (term_over_two (term_mul s t) u v ≡ term_mul u v) × (term_over_two (term_neg s) t u ≡ term_neg s)
terms = (refl, refl, refl, refl, refl, refl, refl, refl, refl)

relations : (rel_over_sets (rel_same_set a b) c d ≡ rel_same_set c d) × (rel_over_sets (rel_other_set a b) c d ≡ rel_other_set c d)
    × (rel_over_sets (rel_subset a b) c d ≡ rel_subset c d) × (rel_over_sets p c d ≡ p)
    × (rel_over_two (rel_and p q) r w ≡ rel_and r w) × (rel_over_two (rel_or p q) r w ≡ rel_or r w) × (rel_over_two (rel_not p) q r ≡ rel_not p)
relations = (refl, refl, refl, refl, refl, refl, refl)

-- which parts a form has
have : SetHasTwoParts (union_of a b) × SetHasTwoParts (inter_of a b) × SetHasTwoParts (diff_of a b) × TermHasOnePart (term_neg s)
    × TermHasOnePart (term_div s (pos 3)) × TermHasOnePart (term_mod s (pos 3)) × TermHasOnePart (term_abs s)
    × TermHasTwoParts (term_add s t) × TermHasTwoParts (term_sub s t) × TermHasTwoParts (term_mul s t)
    × RelHasSets (rel_same_set a b) × RelHasSets (rel_other_set a b) × RelHasSets (rel_subset a b)
    × RelHasTwoParts (rel_and p q) × RelHasTwoParts (rel_or p q)
have = (tt, tt, tt, tt, tt, tt, tt, tt, tt, tt, tt, tt, tt, tt, tt)

no_others : (SetHasTwoParts a → ⊥) × (TermHasOnePart (term_add s t) → ⊥) × (TermHasTwoParts (term_neg s) → ⊥) × (RelHasSets (rel_and p q) → ⊥)
    × (RelHasTwoParts (rel_not p) → ⊥)
no_others = (λ h. h, λ h. h, λ h. h, λ h. h, λ h. h)
