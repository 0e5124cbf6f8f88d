-- Relations put more simply.
use Rattle.std.specs.Prelude.{◌↔◌, ℤ, pos, negsuc, int_le, List, Option, Some, None, if◌then◌else◌}
use Rattle.std.specs.Ordering.{int_eq}
use Rattle.cf_tree.specs.declared.base.Order.{Order}
use Rattle.cf_tree.specs.declared.base.Order.TheVariants.{Eq, Ne, Lt, Le, Gt, Ge}
use Rattle.cf_tree.specs.Numbers.{quotient, remainder}
use Rattle.cf_tree.specs.Relation.{Holds}
use Rattle.cf_tree.specs.RelTree.{RelTree, rel_true, rel_false, rel_compare, rel_same_set, rel_other_set, rel_subset, rel_divides, rel_and, rel_or, rel_not}
use Rattle.cf_tree.specs.Values.{Value}
use Rattle.cf_simple.specs.Lines.{Line, just, plus, times}
use Rattle.cf_simple.specs.Quotients.{common_factor, divided_by}
use Rattle.cf_simple.specs.Terms.{line_of}
use Rattle.cf_simple.specs.Joined.{all_of, any_of}
use Rattle.cf_simple.specs.Comparisons.{decided, constant_of, sides, divides_line, at_least}

-- a line is 0, where its factors have a common factor
abbrev pub is_zero_by : ℤ → Line → Option ℤ → RelTree
is_zero_by g l (Some c) = decided (int_eq c (pos 0))
is_zero_by g l None =
    if int_eq (remainder l.constant g) (pos 0) then sides Eq (record { parts = divided_by g l.parts; constant = quotient l.constant g }) else rel_false

abbrev pub is_zero_line : Line → RelTree
is_zero_line l = is_zero_by (common_factor 0 l.parts) l (constant_of l)

-- !r, where ! has an order of its own
abbrev pub turned_order : Order → Order
turned_order Eq = Ne
turned_order Ne = Eq
turned_order Lt = Ge
turned_order Le = Gt
turned_order Gt = Le
turned_order Ge = Lt

abbrev pub opposite : RelTree → RelTree
opposite rel_true = rel_false
opposite rel_false = rel_true
opposite (rel_compare o a b) = rel_compare (turned_order o) a b
opposite (rel_same_set a b) = rel_other_set a b
opposite (rel_other_set a b) = rel_same_set a b
opposite (rel_not r) = rel_not (rel_not r)
opposite r = rel_not r

abbrev pub compared : Order → Line → RelTree
compared Eq l = is_zero_line l
compared Ne l = opposite (is_zero_line l)
compared Ge l = at_least 100 l
compared Gt l = at_least 100 (plus l (negsuc 0) (just (pos 1)))
compared Le l = at_least 100 (times (negsuc 0) l)
compared Lt l = at_least 100 (plus (times (negsuc 0) l) (negsuc 0) (just (pos 1)))

abbrev pub simple : RelTree → RelTree
simple rel_true = rel_true
simple rel_false = rel_false
simple (rel_compare o a b) = compared o (plus (line_of a) (negsuc 0) (line_of b))
simple (rel_same_set a b) = rel_same_set a b
simple (rel_other_set a b) = rel_other_set a b
simple (rel_subset a b) = rel_subset a b
simple (rel_divides k t) = if int_le (pos 1) k then divides_line k (line_of t) else rel_divides k t
simple (rel_and a b) = all_of (simple a) (simple b)
simple (rel_or a b) = any_of (simple a) (simple b)
simple (rel_not a) = opposite (simple a)

-- the law
abbrev pub SimpleMeansTheSame : (RelTree → RelTree) → Type 0
SimpleMeansTheSame simpler = (r : RelTree) (env : List Value) → Holds (simpler r) env ↔ Holds r env
