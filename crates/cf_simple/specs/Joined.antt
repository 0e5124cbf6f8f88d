-- Relations joined by && and ||: what decides nothing is left out, and bounds of one form are one.
use Rattle.std.specs.Prelude.{Bool, true, false, ◌||◌, Option, Some, None, if◌then◌else◌}
use Rattle.cf_tree.specs.RelTree.{RelTree, rel_true, rel_false, rel_compare, rel_same_set, rel_other_set, rel_subset, rel_divides, rel_and, rel_or, rel_not}
use Rattle.cf_simple.specs.Bounds.{bound_of, both_bounds, either_bound}

abbrev pub is_true : RelTree → Bool
is_true rel_true = true
is_true r = false

abbrev pub is_false : RelTree → Bool
is_false rel_false = true
is_false r = false

-- both, and either, without what decides nothing
abbrev pub both : RelTree → RelTree → RelTree
both r s = if is_false r || is_false s then rel_false else (if is_true r then s else (if is_true s then r else rel_and r s))

abbrev pub either : RelTree → RelTree → RelTree
either r s = if is_true r || is_true s then rel_true else (if is_false r then s else (if is_false s then r else rel_or r s))

-- the first that is there
abbrev pub or_else : Option RelTree → Option RelTree → Option RelTree
or_else None later = later
or_else (Some r) later = Some r

abbrev pub before : (RelTree → RelTree → RelTree) → RelTree → Option RelTree → Option RelTree
before join r None = None
before join r (Some m) = Some (join r m)

abbrev pub behind : (RelTree → RelTree → RelTree) → Option RelTree → RelTree → Option RelTree
behind join None r = None
behind join (Some m) r = Some (join m r)

-- ---- &&
-- s joined to a bound among the parts of the first, if it can be
abbrev pub both_in : RelTree → RelTree → Option RelTree
both_in (rel_and a b) s = or_else (before both a (both_bounds (bound_of b) (bound_of s))) (behind both (both_in a s) b)
both_in r s = both_bounds (bound_of r) (bound_of s)

abbrev pub both_or : RelTree → RelTree → Option RelTree → RelTree
both_or r s None = both r s
both_or r s (Some m) = m

abbrev pub one_more : RelTree → RelTree → RelTree
one_more r s = both_or r s (both_in r s)

-- all parts of both, from left to right
abbrev pub all_of : RelTree → RelTree → RelTree
all_of r (rel_and s t) = one_more (all_of r s) t
all_of r s = one_more r s

-- ---- ||
abbrev pub either_in : RelTree → RelTree → Option RelTree
either_in (rel_or a b) s = or_else (before either a (either_bound (bound_of b) (bound_of s))) (behind either (either_in a s) b)
either_in r s = either_bound (bound_of r) (bound_of s)

abbrev pub either_or : RelTree → RelTree → Option RelTree → RelTree
either_or r s None = either r s
either_or r s (Some m) = m

abbrev pub one_other : RelTree → RelTree → RelTree
one_other r s = either_or r s (either_in r s)

abbrev pub any_of : RelTree → RelTree → RelTree
any_of r (rel_or s t) = one_other (any_of r s) t
any_of r s = one_other r s
