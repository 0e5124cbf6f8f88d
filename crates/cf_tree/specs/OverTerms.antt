-- Set forms, number forms and relations over other parts, in the order in which these stand.
use Rattle.cf_tree.specs.RelTree.{SetTree, union_of, inter_of, diff_of, TermTree, term_neg, term_add, term_sub, term_mul, term_div, term_mod, term_abs, RelTree, rel_same_set, rel_other_set, rel_subset, rel_and, rel_or}

-- the operation of these two set forms
abbrev pub set_over_two : SetTree → SetTree → SetTree → SetTree
set_over_two (union_of a b) c d = union_of c d
set_over_two (inter_of a b) c d = inter_of c d
set_over_two (diff_of a b) c d = diff_of c d
set_over_two s c d = s

-- the number form over this part
abbrev pub term_over_one : TermTree → TermTree → TermTree
term_over_one (term_neg a) b = term_neg b
term_over_one (term_div a k) b = term_div b k
term_over_one (term_mod a k) b = term_mod b k
term_over_one (term_abs a) b = term_abs b
term_over_one t b = t

-- the number form over these two parts
abbrev pub term_over_two : TermTree → TermTree → TermTree → TermTree
term_over_two (term_add a b) c d = term_add c d
term_over_two (term_sub a b) c d = term_sub c d
term_over_two (term_mul a b) c d = term_mul c d
term_over_two t c d = t

-- the relation of these two set forms
abbrev pub rel_over_sets : RelTree → SetTree → SetTree → RelTree
rel_over_sets (rel_same_set a b) c d = rel_same_set c d
rel_over_sets (rel_other_set a b) c d = rel_other_set c d
rel_over_sets (rel_subset a b) c d = rel_subset c d
rel_over_sets r c d = r

-- the relation of these two relations
abbrev pub rel_over_two : RelTree → RelTree → RelTree → RelTree
rel_over_two (rel_and a b) c d = rel_and c d
rel_over_two (rel_or a b) c d = rel_or c d
rel_over_two r c d = r

-- an operation of two set forms
abbrev pub SetHasTwoParts : SetTree → Type 0
SetHasTwoParts (union_of a b) = Unit {0}
SetHasTwoParts (inter_of a b) = Unit {0}
SetHasTwoParts (diff_of a b) = Unit {0}
SetHasTwoParts _ = ⊥

-- a number form with one part that is a number form
abbrev pub TermHasOnePart : TermTree → Type 0
TermHasOnePart (term_neg a) = Unit {0}
TermHasOnePart (term_div a k) = Unit {0}
TermHasOnePart (term_mod a k) = Unit {0}
TermHasOnePart (term_abs a) = Unit {0}
TermHasOnePart _ = ⊥

-- a number form with two parts
abbrev pub TermHasTwoParts : TermTree → Type 0
TermHasTwoParts (term_add a b) = Unit {0}
TermHasTwoParts (term_sub a b) = Unit {0}
TermHasTwoParts (term_mul a b) = Unit {0}
TermHasTwoParts _ = ⊥

-- a relation of two set forms
abbrev pub RelHasSets : RelTree → Type 0
RelHasSets (rel_same_set a b) = Unit {0}
RelHasSets (rel_other_set a b) = Unit {0}
RelHasSets (rel_subset a b) = Unit {0}
RelHasSets _ = ⊥

-- a relation of two relations
abbrev pub RelHasTwoParts : RelTree → Type 0
RelHasTwoParts (rel_and a b) = Unit {0}
RelHasTwoParts (rel_or a b) = Unit {0}
RelHasTwoParts _ = ⊥
