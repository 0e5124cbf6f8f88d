-- What `Fold` makes of a form of code: its value, where all of its parts are literals and no number met passes the limit.
use Rattle.std.specs.Prelude.{ℕ, ◌-◌, ◌^◌, nat_le, Bool, true, false, ◌&&◌, List, [], ◌∷◌, Option, Some, None, is_some, option_map, unwrap_or, pos, if◌then◌else◌}
use Rattle.cf_tree.specs.CodeTree.{CodeTree, code_lit, code_truth, code_sum, code_sub, code_mul, code_neg, code_div, code_mod, code_min, code_max, code_compare, code_divides, code_and, code_or, code_not, CodeTrees, no_codes, code_more}
use Rattle.cf_tree.specs.Meaning.{Got, got, Path, path}
use Rattle.cf_tree.specs.Values.{Value, number, truth, elements}

-- the value of a literal
abbrev pub literal_value : CodeTree → Option Value
literal_value (code_lit k) = Some (number k)
literal_value (code_truth t) = Some (truth t)
literal_value c = None

abbrev pub is_literal : CodeTree → Bool
is_literal c = is_some (literal_value c)

abbrev pub are_literals : CodeTrees → Bool
are_literals no_codes = true
are_literals (code_more c cs) = is_literal c && are_literals cs

-- a form that is folded, of literals alone
abbrev pub is_of_literals : CodeTree → Bool
is_of_literals (code_sum cs) = are_literals cs
is_of_literals (code_sub a b) = is_literal a && is_literal b
is_of_literals (code_mul a b) = is_literal a && is_literal b
is_of_literals (code_neg a) = is_literal a
is_of_literals (code_div a k) = is_literal a
is_of_literals (code_mod a k) = is_literal a
is_of_literals (code_min cs) = are_literals cs
is_of_literals (code_max cs) = are_literals cs
is_of_literals (code_compare o a b) = is_literal a && is_literal b
is_of_literals (code_divides k a) = is_literal a
is_of_literals (code_and a b) = is_literal a && is_literal b
is_of_literals (code_or a b) = is_literal a && is_literal b
is_of_literals (code_not a) = is_literal a
is_of_literals c = false

abbrev pub single : Got (List Value) → Option Value
single (got (v ∷ [])) = Some v
single g = None

-- the value at the end of a path, where no number met on it passes the limit
abbrev pub kept_value : Path (List Value) → Option Value
kept_value p = if nat_le p.peak (2 ^ 127 - 1) then single p.gives else None

unfoldable pub folded_value : CodeTree → Option Value
folded_value c = if is_of_literals c then kept_value (path c []) else None

-- the literal of a number or a truth value; no form of literals gives a set
abbrev pub literal_of : Value → CodeTree
literal_of (number z) = code_lit z
literal_of (truth b) = code_truth b
literal_of (elements zs) = code_lit (pos 0)

-- the literal of its value, or the code itself
abbrev pub fold_form : CodeTree → CodeTree
fold_form c = unwrap_or (option_map literal_of (folded_value c)) c

-- one unit where it is folded
abbrev pub fold_units : CodeTree → ℕ
fold_units c = if is_some (folded_value c) then 1 else 0
