-- How `Fold` computes: a value for each part, and what each form makes of them.
use Rattle.std.specs.Prelude.{ℤ, pos, ◌+ℤ◌, ◌-ℤ◌, ◌*ℤ◌, neg_ℤ, true, false, not, Option, Some, None, IfSome, option_map, option_and_then, if◌then◌else◌}
use Rattle.std.specs.Int.{int_max, int_min}
use Rattle.cf_num.specs.Limit.{IsWithin, within}
use Rattle.cf_tree.specs.declared.base.Order.{Order}
use Rattle.cf_tree.specs.CodeTree.{CodeTree, code_sum, code_sub, code_mul, code_neg, code_div, code_mod, code_min, code_max, code_compare, code_divides, code_and, code_or, code_not, CodeTrees, no_codes, code_more}
use Rattle.cf_tree.specs.Meaning.{choose_with, chosen}
use Rattle.cf_tree.specs.Numbers.{quotient, remainder, is_multiple}
use Rattle.cf_tree.specs.Values.{Value, number, truth, number_of, truth_of, compared}
use Rattle.cf_pass.specs.Folding.{literal_value}
use Rattle.cf_pass.specs.declared.literal.Literal.{Literal}
use Rattle.cf_pass.specs.declared.literal.Literal.TheVariants.{Number, Truth}
use Rattle.cf_pass.specs.declared.literal.Side.{Side}
use Rattle.cf_pass.specs.declared.literal.Side.TheVariants.{Least, Greatest}

abbrev pub value_of : Literal → Value
value_of (Number z) = number z
value_of (Truth b) = truth b

abbrev pub values_of : Option Literal → Option Value
values_of v = option_map value_of v

-- a number within the limit, if it is one
abbrev pub IsMet : Option Literal → Type 0
IsMet v = IfSome v (λ x. IsWithin (number_of (value_of x)))

abbrev pub then_some : {A B : Type 0} → Option A → (A → Option B) → Option B
then_some o go = option_and_then go o

abbrev pub better_of : Side → ℤ → ℤ → ℤ
better_of Least = int_min
better_of Greatest = int_max

abbrev pub limited_number : ℤ → Option Value
limited_number z = option_map number (within z)

-- the value, or none where it is a number past the limit
abbrev pub limited : Value → Option Value
limited (number z) = limited_number z
limited v = Some v

-- the value of a literal, which is met
abbrev pub met_value : CodeTree → Option Value
met_value c = then_some (literal_value c) limited

abbrev pub of_two : (Value → Value → Option Value) → Option Value → Option Value → Option Value
of_two form v w = then_some v (λ x. then_some w (form x))

abbrev pub difference_of : Value → Value → Option Value
difference_of v w = limited_number (number_of v -ℤ number_of w)

abbrev pub product_of : Value → Value → Option Value
product_of v w = limited_number (number_of v *ℤ number_of w)

abbrev pub negated_of : Value → Option Value
negated_of v = limited_number (neg_ℤ (number_of v))

abbrev pub quotient_of : ℤ → Value → Option Value
quotient_of k v = limited_number (quotient (number_of v) k)

abbrev pub remainder_of : ℤ → Value → Option Value
remainder_of k v = limited_number (remainder (number_of v) k)

abbrev pub comparison_of : Order → Value → Value → Option Value
comparison_of o v w = Some (truth (compared o v w))

abbrev pub multiple_of : ℤ → Value → Option Value
multiple_of k v = Some (truth (is_multiple k (number_of v)))

-- the right side is met where the left one does not decide
abbrev pub conjunction_of : Value → Value → Option Value
conjunction_of v w = if truth_of v then limited w else Some (truth false)

abbrev pub disjunction_of : Value → Value → Option Value
disjunction_of v w = if truth_of v then Some (truth true) else limited w

abbrev pub negation_of : Value → Option Value
negation_of v = Some (truth (not (truth_of v)))

-- the sum of z and all
abbrev pub sum_of : CodeTrees → ℤ → Option Value
sum_of no_codes z = Some (number z)
sum_of (code_more c cs) z = then_some (met_value c) (λ v. then_some (within (z +ℤ number_of v)) (sum_of cs))

-- the best of z and all
abbrev pub best_of : (ℤ → ℤ → ℤ) → CodeTrees → Option ℤ → Option Value
best_of better no_codes z = limited_number (chosen z)
best_of better (code_more c cs) z = then_some (met_value c) (λ v. best_of better cs (Some (choose_with better z (number_of v))))

-- the value of a form of literals, part by part
abbrev pub form_value : CodeTree → Option Value
form_value (code_sum cs) = sum_of cs (pos 0)
form_value (code_sub a b) = of_two difference_of (met_value a) (met_value b)
form_value (code_mul a b) = of_two product_of (met_value a) (met_value b)
form_value (code_neg a) = then_some (met_value a) negated_of
form_value (code_div a k) = then_some (met_value a) (quotient_of k)
form_value (code_mod a k) = then_some (met_value a) (remainder_of k)
form_value (code_min cs) = best_of int_min cs None
form_value (code_max cs) = best_of int_max cs None
form_value (code_compare o a b) = of_two (comparison_of o) (met_value a) (met_value b)
form_value (code_divides k a) = then_some (met_value a) (multiple_of k)
form_value (code_and a b) = of_two conjunction_of (met_value a) (literal_value b)
form_value (code_or a b) = of_two disjunction_of (met_value a) (literal_value b)
form_value (code_not a) = then_some (met_value a) negation_of
form_value c = None
