-- What relations and their parts mean, and which are linear.
use Rattle.std.specs.Prelude.{ℤ, pos, ◌+ℤ◌, ◌-ℤ◌, ◌*ℤ◌, neg_ℤ, ◌≤ℤ◌, ◌≡◌, ◌≢◌, ◌⊎◌, Bool, true, false, ◌&&◌, ◌||◌, List, [], ◌++◌, length, slice_get, Some, IsTrue}
use Rattle.cf_num.specs.Limit.{IsWithin}
use Rattle.cf_tree.specs.declared.base.Base.{Base}
use Rattle.cf_tree.specs.declared.base.Base.TheVariants.{Int, Set}
use Rattle.cf_tree.specs.Numbers.{quotient, remainder, absolute, Compares}
use Rattle.cf_tree.specs.RelTree.{SetTree, empty_set, set_var, union_of, inter_of, diff_of, TermTree, term_lit, term_var, term_card, term_neg, term_add, term_sub, term_mul, term_div, term_mod, term_abs, RelTree, rel_true, rel_false, rel_compare, rel_same_set, rel_other_set, rel_subset, rel_divides, rel_and, rel_or, rel_not}
use Rattle.cf_tree.specs.Sets.{set_union, set_inter, set_diff, has}
use Rattle.cf_tree.specs.Values.{Value, number_of, elements_of, value_at, HaveBases}

-- the members of a set form
abbrev pub members : SetTree → List Value → List ℤ
members empty_set env = []
members (set_var x) env = elements_of (value_at env x)
members (union_of a b) env = set_union (members a env) (members b env)
members (inter_of a b) env = set_inter (members a env) (members b env)
members (diff_of a b) env = set_diff (members a env) (members b env)

-- the value of a number form
abbrev pub val : TermTree → List Value → ℤ
val (term_lit n) env = n
val (term_var x) env = number_of (value_at env x)
val (term_card s) env = pos (length (members s env))
val (term_neg a) env = neg_ℤ (val a env)
val (term_add a b) env = val a env +ℤ val b env
val (term_sub a b) env = val a env -ℤ val b env
val (term_mul a b) env = val a env *ℤ val b env
val (term_div a k) env = quotient (val a env) k
val (term_mod a k) env = remainder (val a env) k
val (term_abs a) env = absolute (val a env)

-- when a relation holds in an environment
abbrev pub Holds : RelTree → List Value → Type 0
Holds rel_true env = Unit {0}
Holds rel_false env = ⊥
Holds (rel_compare o a b) env = Compares o (val a env) (val b env)
Holds (rel_same_set a b) env = members a env ≡ members b env
Holds (rel_other_set a b) env = members a env ≢ members b env
Holds (rel_subset a b) env = (x : ℤ) → has (members a env) x ≡ true → has (members b env) x ≡ true
Holds (rel_divides k t) env = (q : ℤ) × (val t env ≡ k *ℤ q)
Holds (rel_and a b) env = Holds a env × Holds b env
Holds (rel_or a b) env = Holds a env ⊎ Holds b env
Holds (rel_not a) env = Holds a env → ⊥

-- xs are outputs of these bases with which the relation holds
abbrev pub Sol : List Base → RelTree → List Value → List Value → Type 0
Sol outputs rel env xs = HaveBases outputs xs × Holds rel (env ++ xs)

-- whether a number form holds no variable, no card, no div and no mod
abbrev pub is_fixed : TermTree → Bool
is_fixed (term_lit n) = true
is_fixed (term_var x) = false
is_fixed (term_card s) = false
is_fixed (term_neg a) = is_fixed a
is_fixed (term_add a b) = is_fixed a && is_fixed b
is_fixed (term_sub a b) = is_fixed a && is_fixed b
is_fixed (term_mul a b) = is_fixed a && is_fixed b
is_fixed (term_div a k) = false
is_fixed (term_mod a k) = false
is_fixed (term_abs a) = is_fixed a

-- each product in a number form has a fixed side
abbrev pub IsLinearTerm : TermTree → Type 0
IsLinearTerm (term_lit n) = Unit {0}
IsLinearTerm (term_var x) = Unit {0}
IsLinearTerm (term_card s) = Unit {0}
IsLinearTerm (term_neg a) = IsLinearTerm a
IsLinearTerm (term_add a b) = IsLinearTerm a × IsLinearTerm b
IsLinearTerm (term_sub a b) = IsLinearTerm a × IsLinearTerm b
IsLinearTerm (term_mul a b) = IsLinearTerm a × IsLinearTerm b × IsTrue (is_fixed a || is_fixed b)
IsLinearTerm (term_div a k) = IsLinearTerm a
IsLinearTerm (term_mod a k) = IsLinearTerm a
IsLinearTerm (term_abs a) = IsLinearTerm a

-- each part of a relation is linear: all forms are, but for a product of two sides that both vary
abbrev pub IsLinear : RelTree → Type 0
IsLinear rel_true = Unit {0}
IsLinear rel_false = Unit {0}
IsLinear (rel_compare o a b) = IsLinearTerm a × IsLinearTerm b
IsLinear (rel_same_set a b) = Unit {0}
IsLinear (rel_other_set a b) = Unit {0}
IsLinear (rel_subset a b) = Unit {0}
IsLinear (rel_divides k t) = IsLinearTerm t
IsLinear (rel_and a b) = IsLinear a × IsLinear b
IsLinear (rel_or a b) = IsLinear a × IsLinear b
IsLinear (rel_not a) = IsLinear a

-- each variable of a set form is a set of the scope
abbrev pub IsTypedSet : List Base → SetTree → Type 0
IsTypedSet scope empty_set = Unit {0}
IsTypedSet scope (set_var x) = slice_get scope x ≡ Some Set
IsTypedSet scope (union_of a b) = IsTypedSet scope a × IsTypedSet scope b
IsTypedSet scope (inter_of a b) = IsTypedSet scope a × IsTypedSet scope b
IsTypedSet scope (diff_of a b) = IsTypedSet scope a × IsTypedSet scope b

abbrev pub IsDivisor : ℤ → Type 0
IsDivisor k = (pos 1 ≤ℤ k) × IsWithin k

-- each variable of a number form has its base in the scope, and each number is within the limit
abbrev pub IsTypedTerm : List Base → TermTree → Type 0
IsTypedTerm scope (term_lit n) = IsWithin n
IsTypedTerm scope (term_var x) = slice_get scope x ≡ Some Int
IsTypedTerm scope (term_card s) = IsTypedSet scope s
IsTypedTerm scope (term_neg a) = IsTypedTerm scope a
IsTypedTerm scope (term_add a b) = IsTypedTerm scope a × IsTypedTerm scope b
IsTypedTerm scope (term_sub a b) = IsTypedTerm scope a × IsTypedTerm scope b
IsTypedTerm scope (term_mul a b) = IsTypedTerm scope a × IsTypedTerm scope b
IsTypedTerm scope (term_div a k) = IsTypedTerm scope a × IsDivisor k
IsTypedTerm scope (term_mod a k) = IsTypedTerm scope a × IsDivisor k
IsTypedTerm scope (term_abs a) = IsTypedTerm scope a

-- a relation over variables of these bases, by level
abbrev pub IsTyped : List Base → RelTree → Type 0
IsTyped scope rel_true = Unit {0}
IsTyped scope rel_false = Unit {0}
IsTyped scope (rel_compare o a b) = IsTypedTerm scope a × IsTypedTerm scope b
IsTyped scope (rel_same_set a b) = IsTypedSet scope a × IsTypedSet scope b
IsTyped scope (rel_other_set a b) = IsTypedSet scope a × IsTypedSet scope b
IsTyped scope (rel_subset a b) = IsTypedSet scope a × IsTypedSet scope b
IsTyped scope (rel_divides k t) = IsDivisor k × IsTypedTerm scope t
IsTyped scope (rel_and a b) = IsTyped scope a × IsTyped scope b
IsTyped scope (rel_or a b) = IsTyped scope a × IsTyped scope b
IsTyped scope (rel_not a) = IsTyped scope a
