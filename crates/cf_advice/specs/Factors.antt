-- How often the number of a level counts in a form; for the contracts within the crate.
use Rattle.std.specs.Prelude.{ℕ, ℤ, pos, neg_ℤ, ◌+ℤ◌, ◌-ℤ◌, ◌*ℤ◌, ◌≡◌, ◌==◌, if◌then◌else◌, [], IsTrue, MatchBool}
use Rattle.cf_tree.specs.Relation.{is_fixed, val}
use Rattle.cf_tree.specs.RelTree.{TermTree, term_lit, term_var, term_card, term_neg, term_add, term_sub, term_mul, term_div, term_mod, term_abs, RelTree, rel_true, rel_false, rel_compare, rel_same_set, rel_other_set, rel_subset, rel_divides, rel_and, rel_or, rel_not}

-- outside of quotients, remainders and absolute values
abbrev pub factor : ℕ → TermTree → ℤ
factor x (term_lit n) = pos 0
factor x (term_var y) = if x == y then pos 1 else pos 0
factor x (term_card s) = pos 0
factor x (term_neg a) = neg_ℤ (factor x a)
factor x (term_add a b) = factor x a +ℤ factor x b
factor x (term_sub a b) = factor x a -ℤ factor x b
factor x (term_mul a b) = if is_fixed a then val a [] *ℤ factor x b else factor x a *ℤ val b []
factor x (term_div a k) = pos 0
factor x (term_mod a k) = pos 0
factor x (term_abs a) = pos 0

-- it counts 0 times inside of these, and products have a fixed side
abbrev pub IsFlat : ℕ → TermTree → Type 0
IsFlat x (term_lit n) = Unit {0}
IsFlat x (term_var y) = Unit {0}
IsFlat x (term_card s) = Unit {0}
IsFlat x (term_neg a) = IsFlat x a
IsFlat x (term_add a b) = IsFlat x a × IsFlat x b
IsFlat x (term_sub a b) = IsFlat x a × IsFlat x b
IsFlat x (term_mul a b) = MatchBool (is_fixed a) (IsFlat x b) (IsTrue (is_fixed b) × IsFlat x a)
IsFlat x (term_div a k) = IsFlat x a × (factor x a ≡ pos 0)
IsFlat x (term_mod a k) = IsFlat x a × (factor x a ≡ pos 0)
IsFlat x (term_abs a) = IsFlat x a × (factor x a ≡ pos 0)

-- it counts as often on both sides of each comparison, and 0 times in what is divided
abbrev pub IsLevel : ℕ → RelTree → Type 0
IsLevel x rel_true = Unit {0}
IsLevel x rel_false = Unit {0}
IsLevel x (rel_compare o a b) = IsFlat x a × IsFlat x b × (factor x a ≡ factor x b)
IsLevel x (rel_same_set a b) = Unit {0}
IsLevel x (rel_other_set a b) = Unit {0}
IsLevel x (rel_subset a b) = Unit {0}
IsLevel x (rel_divides k t) = IsFlat x t × (factor x t ≡ pos 0)
IsLevel x (rel_and p q) = IsLevel x p × IsLevel x q
IsLevel x (rel_or p q) = IsLevel x p × IsLevel x q
IsLevel x (rel_not p) = IsLevel x p
