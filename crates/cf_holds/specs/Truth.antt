-- Whether a relation holds in an environment, as a test.
use Rattle.std.specs.Prelude.{ℤ, Bool, true, false, not, ◌&&◌, ◌||◌, List}
use Rattle.cf_tree.specs.Numbers.{absolute, is_multiple}
use Rattle.cf_tree.specs.Relation.{members, val}
use Rattle.cf_tree.specs.RelTree.{RelTree, rel_true, rel_false, rel_compare, rel_same_set, rel_other_set, rel_subset, rel_divides, rel_and, rel_or, rel_not}
use Rattle.cf_tree.specs.Sets.{is_subset}
use Rattle.cf_tree.specs.Values.{Value, number, compared, same_list}

-- whether z is a multiple of k, which may be negative
abbrev pub divides : ℤ → ℤ → Bool
divides k z = is_multiple (absolute k) z

abbrev pub is_true : RelTree → List Value → Bool
is_true rel_true env = true
is_true rel_false env = false
is_true (rel_compare o a b) env = compared o (number (val a env)) (number (val b env))
is_true (rel_same_set a b) env = same_list (members a env) (members b env)
is_true (rel_other_set a b) env = not (same_list (members a env) (members b env))
is_true (rel_subset a b) env = is_subset (members a env) (members b env)
is_true (rel_divides k t) env = divides k (val t env)
is_true (rel_and a b) env = is_true a env && is_true b env
is_true (rel_or a b) env = is_true a env || is_true b env
is_true (rel_not a) env = not (is_true a env)
