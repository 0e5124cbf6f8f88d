-- Forms over other parts, in the order in which these stand.
use Rattle.cf_tree.specs.CodeTree.{CodeTree, code_set_of, code_tuple, code_sum, code_sub, code_mul, code_neg, code_div, code_mod, code_min, code_max, code_compare, code_divides, code_and, code_or, code_not, code_union, code_inter, code_diff, code_subset, code_card, code_slice, code_fresh, code_if, code_let, CodeTrees}

-- the form over this list
abbrev pub over_list : CodeTree → CodeTrees → CodeTree
over_list (code_set_of cs) ds = code_set_of ds
over_list (code_tuple cs) ds = code_tuple ds
over_list (code_sum cs) ds = code_sum ds
over_list (code_min cs) ds = code_min ds
over_list (code_max cs) ds = code_max ds
over_list (code_union cs) ds = code_union ds
over_list (code_inter cs) ds = code_inter ds
over_list c ds = c

-- the form over this part
abbrev pub over_one : CodeTree → CodeTree → CodeTree
over_one (code_neg a) b = code_neg b
over_one (code_div a k) b = code_div b k
over_one (code_mod a k) b = code_mod b k
over_one (code_divides k a) b = code_divides k b
over_one (code_not a) b = code_not b
over_one (code_card a) b = code_card b
over_one c b = c

-- the form over these two parts
abbrev pub over_two : CodeTree → CodeTree → CodeTree → CodeTree
over_two (code_sub a b) c d = code_sub c d
over_two (code_mul a b) c d = code_mul c d
over_two (code_compare o a b) c d = code_compare o c d
over_two (code_and a b) c d = code_and c d
over_two (code_or a b) c d = code_or c d
over_two (code_diff a b) c d = code_diff c d
over_two (code_subset a b) c d = code_subset c d
over_two (code_fresh a b) c d = code_fresh c d
over_two (code_let n n' a b) c d = code_let n n' c d
over_two e c d = e

-- the form over these three parts
abbrev pub over_three : CodeTree → CodeTree → CodeTree → CodeTree → CodeTree
over_three (code_slice a b c) d e f = code_slice d e f
over_three (code_if a b c) d e f = code_if d e f
over_three g d e f = g

-- a form with a list of parts
abbrev pub HasList : CodeTree → Type 0
HasList (code_set_of cs) = Unit {0}
HasList (code_tuple cs) = Unit {0}
HasList (code_sum cs) = Unit {0}
HasList (code_min cs) = Unit {0}
HasList (code_max cs) = Unit {0}
HasList (code_union cs) = Unit {0}
HasList (code_inter cs) = Unit {0}
HasList _ = ⊥

-- a form with one part
abbrev pub HasOnePart : CodeTree → Type 0
HasOnePart (code_neg a) = Unit {0}
HasOnePart (code_div a k) = Unit {0}
HasOnePart (code_mod a k) = Unit {0}
HasOnePart (code_divides k a) = Unit {0}
HasOnePart (code_not a) = Unit {0}
HasOnePart (code_card a) = Unit {0}
HasOnePart _ = ⊥

-- a form with two parts
abbrev pub HasTwoParts : CodeTree → Type 0
HasTwoParts (code_sub a b) = Unit {0}
HasTwoParts (code_mul a b) = Unit {0}
HasTwoParts (code_compare o a b) = Unit {0}
HasTwoParts (code_and a b) = Unit {0}
HasTwoParts (code_or a b) = Unit {0}
HasTwoParts (code_diff a b) = Unit {0}
HasTwoParts (code_subset a b) = Unit {0}
HasTwoParts (code_fresh a b) = Unit {0}
HasTwoParts (code_let n n' a b) = Unit {0}
HasTwoParts _ = ⊥

-- a form with three parts
abbrev pub HasThreeParts : CodeTree → Type 0
HasThreeParts (code_slice a b c) = Unit {0}
HasThreeParts (code_if a b c) = Unit {0}
HasThreeParts _ = ⊥
