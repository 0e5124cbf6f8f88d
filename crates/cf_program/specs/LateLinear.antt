-- Which relations are linear: by the plain rule, and once the numbers in scope are known, where a product may have a side of literals and of numbers in scope.
use Rattle.std.specs.Prelude.{ℕ, nat_lt, Bool, true, false, ◌&&◌, ◌||◌, IsTrue}
use Rattle.cf_tree.specs.Relation.{IsLinear}
use Rattle.cf_tree.specs.RelTree.{TermTree, term_lit, term_var, term_card, term_neg, term_add, term_sub, term_mul, term_div, term_mod, term_abs, RelTree, rel_true, rel_false, rel_compare, rel_same_set, rel_other_set, rel_subset, rel_divides, rel_and, rel_or, rel_not}
use Rattle.cf_program.specs.declared.linearity.Linearity.{Linearity}
use Rattle.cf_program.specs.declared.linearity.Linearity.TheVariants.{Plain, Late}

-- whether a number form holds no variable from level n on, no card, no div and no mod
abbrev pub is_fixed_below : ℕ → TermTree → Bool
is_fixed_below n (term_lit k) = true
is_fixed_below n (term_var x) = nat_lt x n
is_fixed_below n (term_card s) = false
is_fixed_below n (term_neg a) = is_fixed_below n a
is_fixed_below n (term_add a b) = is_fixed_below n a && is_fixed_below n b
is_fixed_below n (term_sub a b) = is_fixed_below n a && is_fixed_below n b
is_fixed_below n (term_mul a b) = is_fixed_below n a && is_fixed_below n b
is_fixed_below n (term_div a k) = false
is_fixed_below n (term_mod a k) = false
is_fixed_below n (term_abs a) = is_fixed_below n a

-- each product in a number form has a side that is fixed once the n variables in scope are known
abbrev pub IsLateLinearTerm : ℕ → TermTree → Type 0
IsLateLinearTerm n (term_lit k) = Unit {0}
IsLateLinearTerm n (term_var x) = Unit {0}
IsLateLinearTerm n (term_card s) = Unit {0}
IsLateLinearTerm n (term_neg a) = IsLateLinearTerm n a
IsLateLinearTerm n (term_add a b) = IsLateLinearTerm n a × IsLateLinearTerm n b
IsLateLinearTerm n (term_sub a b) = IsLateLinearTerm n a × IsLateLinearTerm n b
IsLateLinearTerm n (term_mul a b) = IsLateLinearTerm n a × IsLateLinearTerm n b × IsTrue (is_fixed_below n a || is_fixed_below n b)
IsLateLinearTerm n (term_div a k) = IsLateLinearTerm n a
IsLateLinearTerm n (term_mod a k) = IsLateLinearTerm n a
IsLateLinearTerm n (term_abs a) = IsLateLinearTerm n a

-- each part of a relation behind n variables is linear so: all forms are, but for a product of two sides that both vary
abbrev pub IsLateLinear : ℕ → RelTree → Type 0
IsLateLinear n rel_true = Unit {0}
IsLateLinear n rel_false = Unit {0}
IsLateLinear n (rel_compare o a b) = IsLateLinearTerm n a × IsLateLinearTerm n b
IsLateLinear n (rel_same_set a b) = Unit {0}
IsLateLinear n (rel_other_set a b) = Unit {0}
IsLateLinear n (rel_subset a b) = Unit {0}
IsLateLinear n (rel_divides k t) = IsLateLinearTerm n t
IsLateLinear n (rel_and a b) = IsLateLinear n a × IsLateLinear n b
IsLateLinear n (rel_or a b) = IsLateLinear n a × IsLateLinear n b
IsLateLinear n (rel_not a) = IsLateLinear n a

-- a relation behind n variables is linear
abbrev pub IsLinearBy : Linearity → ℕ → RelTree → Type 0
IsLinearBy Plain n rel = IsLinear rel
IsLinearBy Late n rel = IsLateLinear n rel

-- how many of the n variables in scope count as known in a relation
abbrev pub known_in : Linearity → ℕ → ℕ
known_in Plain n = 0
known_in Late n = n
