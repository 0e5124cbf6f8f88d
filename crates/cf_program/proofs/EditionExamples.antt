-- Worked examples of the rules of edition 3: the first rule that a source breaks, or its typed program.
--
-- Above each example stands its source, behind the header in the first line.
use Rattle.std.specs.Prelude.{ℕ, pos, negsuc, Bool, true, false, ◌≡◌, List, [], ◌∷◌, codes, Option, Some, None, Ok, Err, refl}
use Rattle.cf_tree.specs.declared.base.Base.{Base}
use Rattle.cf_tree.specs.declared.base.Base.TheVariants.{Int, Bool as Truth, Set}
use Rattle.cf_tree.specs.declared.base.Edition.TheVariants.{Three}
use Rattle.cf_tree.specs.declared.base.Order.TheVariants.{Eq, Lt, Le, Gt, Ge}
use Rattle.cf_tree.specs.declared.base.Place.{Place}
use Rattle.cf_tree.specs.declared.base.Sense.TheVariants.{Least, Greatest}
use Rattle.cf_tree.specs.declared.raw.BinOp.TheVariants.{Add, Sub, Mul, And, Union, Subset, Implies, Compare}
use Rattle.cf_tree.specs.declared.raw.Param.{Param}
use Rattle.cf_tree.specs.DefView.{RawItemTree, item_const, item_def, DefTree}
use Rattle.cf_tree.specs.ExprTree.{ExprTree, expr_lit, expr_truth, expr_var, expr_tuple, expr_neg, expr_abs, expr_binary, expr_chain, expr_min, expr_max, expr_divides, expr_div, expr_mod, expr_card, expr_if, expr_call, expr_let, expr_choose_where, expr_match, exprs_of, match_arm, match_arms_of, holds_always, holds_where, at_any, at_least, at_greatest}
use Rattle.cf_tree.specs.RawTree.{RawTree, raw_lit, raw_truth, raw_name, raw_set_of, raw_group, raw_tuple, raw_neg, raw_not, raw_abs, raw_binary, raw_chain, raw_min, raw_max, raw_divides, raw_div, raw_mod, raw_card, raw_call, raw_if, raw_let, raw_choose, raw_match, raws_of, raw_arm, raw_arms_of, NumberTree, number_lit, number_name, PartTree, no_given, given_that, no_aim, aim_at}
use Rattle.cf_program.specs.declared.fault.TypeFault.TheVariants.{UnknownName, DuplicateName, WrongCount, Mismatch, NotConstant, ConstantBelow, ConstantPast, CallsLater, NoMain, NotLinear}
use Rattle.cf_program.specs.declared.linearity.Linearity.TheVariants.{Plain, Late}
use Rattle.cf_program.specs.Checked.{TypedTree, checked}
use Rattle.cf_program.proofs.RuleExamples.{on, param}

abbrev pub def : Place → List ℕ → List Param → List Base → RawTree → RawItemTree
def p x ps bs body = item_def (record { place = p; name = x; params = ps; results = bs; body = body })

abbrev pub part : Place → Bool → Option NumberTree → Place → List ℕ → PartTree
part start is_negative k p x = record { start = start; is_negative = is_negative; factor = k; place = p; name = x }

abbrev pub typed : List ℕ → List Param → List Base → ExprTree → DefTree
typed x ps bs body = record { name = x; params = ps; results = bs; body = body }

abbrev program : List DefTree → ℕ → TypedTree
program defs main = record { defs = defs; main = main }

-- def main(a: int): int = choose (x: int) where not (x > a)
abbrev pub word_not : List RawItemTree
word_not =
    (def (on 2 1) (codes "main") (param (on 2 10) (codes "a") Int ∷ []) (Int ∷ []) (raw_choose (on 2 25) (param (on 2 33) (codes "x") Int ∷ []) [] no_given
    (raw_call (on 2 47) (codes "not") (raws_of ((raw_binary (on 2 54) (Compare Gt) (raw_name (on 2 52) (codes "x")) (raw_name (on 2 56) (codes "a"))) ∷ [])))
    no_aim) ∷ [])

word_not_is : checked Three Plain word_not ≡ Err (UnknownName (on 2 47))
word_not_is = refl

-- def main(hours: int): int = hour + 1
abbrev pub unknown_name_near : List RawItemTree
unknown_name_near =
    (def (on 2 1) (codes "main") (param (on 2 10) (codes "hours") Int ∷ []) (Int ∷ []) (raw_binary (on 2 34) Add (raw_name (on 2 29) (codes "hour")) (raw_lit
    (on 2 36) (pos 1))) ∷ [])

unknown_name_near_is : checked Three Plain unknown_name_near ≡ Err (UnknownName (on 2 29))
unknown_name_near_is = refl

-- def main(hour: int): int = hourr
abbrev pub unknown_name_with_one_byte_more : List RawItemTree
unknown_name_with_one_byte_more =
    (def (on 2 1) (codes "main") (param (on 2 10) (codes "hour") Int ∷ []) (Int ∷ []) (raw_name (on 2 28) (codes "hourr")) ∷ [])

unknown_name_with_one_byte_more_is : checked Three Plain unknown_name_with_one_byte_more ≡ Err (UnknownName (on 2 28))
unknown_name_with_one_byte_more_is = refl

-- const LIMIT = 4
-- def main(a: int): int = LIMAT
abbrev pub unknown_name_with_another_byte : List RawItemTree
unknown_name_with_another_byte =
    (item_const (on 2 7) (codes "LIMIT") (raw_lit (on 2 15) (pos 4)) ∷ def (on 3 1) (codes "main") (param (on 3 10) (codes "a") Int ∷ []) (Int ∷ [])
    (raw_name (on 3 25) (codes "LIMAT")) ∷ [])

unknown_name_with_another_byte_is : checked Three Plain unknown_name_with_another_byte ≡ Err (UnknownName (on 3 25))
unknown_name_with_another_byte_is = refl

-- def main(ab: int): int = let ac = ab in ad
abbrev pub unknown_name_innermost_first : List RawItemTree
unknown_name_innermost_first =
    (def (on 2 1) (codes "main") (param (on 2 10) (codes "ab") Int ∷ []) (Int ∷ []) (raw_let (on 2 26) ((codes "ac") ∷ []) ((on 2 30) ∷ []) (raw_name (on 2
    35) (codes "ab")) (raw_name (on 2 41) (codes "ad"))) ∷ [])

unknown_name_innermost_first_is : checked Three Plain unknown_name_innermost_first ≡ Err (UnknownName (on 2 41))
unknown_name_innermost_first_is = refl

-- def main(a: int): int = b
abbrev pub unknown_name_of_one_byte : List RawItemTree
unknown_name_of_one_byte =
    (def (on 2 1) (codes "main") (param (on 2 10) (codes "a") Int ∷ []) (Int ∷ []) (raw_name (on 2 25) (codes "b")) ∷ [])

unknown_name_of_one_byte_is : checked Three Plain unknown_name_of_one_byte ≡ Err (UnknownName (on 2 25))
unknown_name_of_one_byte_is = refl

-- def main(hours: int): int = minutes
abbrev pub unknown_name_far : List RawItemTree
unknown_name_far =
    (def (on 2 1) (codes "main") (param (on 2 10) (codes "hours") Int ∷ []) (Int ∷ []) (raw_name (on 2 29) (codes "minutes")) ∷ [])

unknown_name_far_is : checked Three Plain unknown_name_far ≡ Err (UnknownName (on 2 29))
unknown_name_far_is = refl

-- def even(x: int): bool = 2 divides x
-- def main(a: int): int = evem(a)
abbrev pub unknown_function_near : List RawItemTree
unknown_function_near =
    (def (on 2 1) (codes "even") (param (on 2 10) (codes "x") Int ∷ []) (Truth ∷ []) (raw_divides (on 2 26) (number_lit (pos 2)) (raw_name (on 2 36) (codes
    "x"))) ∷ def (on 3 1) (codes "main") (param (on 3 10) (codes "a") Int ∷ []) (Int ∷ []) (raw_call (on 3 25) (codes "evem") (raws_of ((raw_name (on 3 30)
    (codes "a")) ∷ []))) ∷ [])

unknown_function_near_is : checked Three Plain unknown_function_near ≡ Err (UnknownName (on 3 25))
unknown_function_near_is = refl

-- def main(a: int): int = maxx(a, 1)
abbrev pub unknown_operation_near : List RawItemTree
unknown_operation_near =
    (def (on 2 1) (codes "main") (param (on 2 10) (codes "a") Int ∷ []) (Int ∷ []) (raw_call (on 2 25) (codes "maxx") (raws_of ((raw_name (on 2 30) (codes
    "a")) ∷ (raw_lit (on 2 33) (pos 1)) ∷ []))) ∷ [])

unknown_operation_near_is : checked Three Plain unknown_operation_near ≡ Err (UnknownName (on 2 25))
unknown_operation_near_is = refl

-- def main(a: int): int = choose (xy: int) given xy > 0 where xy == a
abbrev pub output_in_given : List RawItemTree
output_in_given =
    (def (on 2 1) (codes "main") (param (on 2 10) (codes "a") Int ∷ []) (Int ∷ []) (raw_choose (on 2 25) (param (on 2 33) (codes "xy") Int ∷ []) []
    (given_that (on 2 42) (raw_binary (on 2 51) (Compare Gt) (raw_name (on 2 48) (codes "xy")) (raw_lit (on 2 53) (pos 0)))) (raw_binary (on 2 64) (Compare
    Eq) (raw_name (on 2 61) (codes "xy")) (raw_name (on 2 67) (codes "a"))) no_aim) ∷ [])

output_in_given_is : checked Three Plain output_in_given ≡ Err (UnknownName (on 2 48))
output_in_given_is = refl

-- def main(a: int): int = KK
-- const KK = 3
abbrev pub constant_used_before : List RawItemTree
constant_used_before =
    (def (on 2 1) (codes "main") (param (on 2 10) (codes "a") Int ∷ []) (Int ∷ []) (raw_name (on 2 25) (codes "KK")) ∷ item_const (on 3 7) (codes "KK")
    (raw_lit (on 3 12) (pos 3)) ∷ [])

constant_used_before_is : checked Three Plain constant_used_before ≡ Err (UnknownName (on 2 25))
constant_used_before_is = refl

-- const K = 1
-- const K = 2
-- def main(a: int): int = a
abbrev pub duplicate_constant : List RawItemTree
duplicate_constant =
    (item_const (on 2 7) (codes "K") (raw_lit (on 2 11) (pos 1)) ∷ item_const (on 3 7) (codes "K") (raw_lit (on 3 11) (pos 2)) ∷ def (on 4 1) (codes "main")
    (param (on 4 10) (codes "a") Int ∷ []) (Int ∷ []) (raw_name (on 4 25) (codes "a")) ∷ [])

duplicate_constant_is : checked Three Plain duplicate_constant ≡ Err (DuplicateName (on 3 7))
duplicate_constant_is = refl

-- const a = 1
-- def main(a: int): int = a
abbrev pub parameter_named_as_a_constant : List RawItemTree
parameter_named_as_a_constant =
    (item_const (on 2 7) (codes "a") (raw_lit (on 2 11) (pos 1)) ∷ def (on 3 1) (codes "main") (param (on 3 10) (codes "a") Int ∷ []) (Int ∷ []) (raw_name
    (on 3 25) (codes "a")) ∷ [])

parameter_named_as_a_constant_is : checked Three Plain parameter_named_as_a_constant ≡ Err (DuplicateName (on 3 10))
parameter_named_as_a_constant_is = refl

-- const K = 1
-- def main(a: int): int = let K = a in K
abbrev pub let_named_as_a_constant : List RawItemTree
let_named_as_a_constant =
    (item_const (on 2 7) (codes "K") (raw_lit (on 2 11) (pos 1)) ∷ def (on 3 1) (codes "main") (param (on 3 10) (codes "a") Int ∷ []) (Int ∷ []) (raw_let (on
    3 25) ((codes "K") ∷ []) ((on 3 29) ∷ []) (raw_name (on 3 33) (codes "a")) (raw_name (on 3 38) (codes "K"))) ∷ [])

let_named_as_a_constant_is : checked Three Plain let_named_as_a_constant ≡ Err (DuplicateName (on 3 29))
let_named_as_a_constant_is = refl

-- const x = 1
-- def main(a: int): int = choose (x: int) where x == a
abbrev pub output_named_as_a_constant : List RawItemTree
output_named_as_a_constant =
    (item_const (on 2 7) (codes "x") (raw_lit (on 2 11) (pos 1)) ∷ def (on 3 1) (codes "main") (param (on 3 10) (codes "a") Int ∷ []) (Int ∷ []) (raw_choose
    (on 3 25) (param (on 3 33) (codes "x") Int ∷ []) [] no_given (raw_binary (on 3 49) (Compare Eq) (raw_name (on 3 47) (codes "x")) (raw_name (on 3 52)
    (codes "a"))) no_aim) ∷ [])

output_named_as_a_constant_is : checked Three Plain output_named_as_a_constant ≡ Err (DuplicateName (on 3 33))
output_named_as_a_constant_is = refl

-- def main(a: int): int = choose (x: int; x: int) where x == a
abbrev pub hidden_output_named_as_an_output : List RawItemTree
hidden_output_named_as_an_output =
    (def (on 2 1) (codes "main") (param (on 2 10) (codes "a") Int ∷ []) (Int ∷ []) (raw_choose (on 2 25) (param (on 2 33) (codes "x") Int ∷ []) (param (on 2
    41) (codes "x") Int ∷ []) no_given (raw_binary (on 2 57) (Compare Eq) (raw_name (on 2 55) (codes "x")) (raw_name (on 2 60) (codes "a"))) no_aim) ∷ [])

hidden_output_named_as_an_output_is : checked Three Plain hidden_output_named_as_an_output ≡ Err (DuplicateName (on 2 41))
hidden_output_named_as_an_output_is = refl

-- const K = 1
-- def main(a: int): int = match a with { 2 * K then 1 ; i then 2 }
abbrev pub pattern_variable_named_as_a_constant : List RawItemTree
pattern_variable_named_as_a_constant =
    (item_const (on 2 7) (codes "K") (raw_lit (on 2 11) (pos 1)) ∷ def (on 3 1) (codes "main") (param (on 3 10) (codes "a") Int ∷ []) (Int ∷ []) (raw_match
    (on 3 25) (raw_name (on 3 31) (codes "a")) (raw_arms_of (raw_arm (part (on 3 40) false (Some (number_lit (pos 2))) (on 3 44) (codes "K") ∷ []) (pos 0)
    (raw_lit (on 3 51) (pos 1)) ∷ raw_arm (part (on 3 55) false None (on 3 55) (codes "i") ∷ []) (pos 0) (raw_lit (on 3 62) (pos 2)) ∷ []))) ∷ [])

pattern_variable_named_as_a_constant_is : checked Three Plain pattern_variable_named_as_a_constant ≡ Err (DuplicateName (on 3 44))
pattern_variable_named_as_a_constant_is = refl

-- def main(a: int, a: int): int = a
abbrev pub duplicate_parameter : List RawItemTree
duplicate_parameter =
    (def (on 2 1) (codes "main") (param (on 2 10) (codes "a") Int ∷ param (on 2 18) (codes "a") Int ∷ []) (Int ∷ []) (raw_name (on 2 33) (codes "a")) ∷ [])

duplicate_parameter_is : checked Three Plain duplicate_parameter ≡ Err (DuplicateName (on 2 18))
duplicate_parameter_is = refl

-- def f(a: int): int = a
-- def f(a: int): int = a
-- def main(a: int): int = a
abbrev pub duplicate_function : List RawItemTree
duplicate_function =
    (def (on 2 1) (codes "f") (param (on 2 7) (codes "a") Int ∷ []) (Int ∷ []) (raw_name (on 2 22) (codes "a")) ∷ def (on 3 1) (codes "f") (param (on 3 7)
    (codes "a") Int ∷ []) (Int ∷ []) (raw_name (on 3 22) (codes "a")) ∷ def (on 4 1) (codes "main") (param (on 4 10) (codes "a") Int ∷ []) (Int ∷ [])
    (raw_name (on 4 25) (codes "a")) ∷ [])

duplicate_function_is : checked Three Plain duplicate_function ≡ Err (DuplicateName (on 3 1))
duplicate_function_is = refl

-- const K = true
-- def main(a: int): int = a
abbrev pub const_of_a_truth_value : List RawItemTree
const_of_a_truth_value =
    (item_const (on 2 7) (codes "K") (raw_truth (on 2 11) true) ∷ def (on 3 1) (codes "main") (param (on 3 10) (codes "a") Int ∷ []) (Int ∷ []) (raw_name (on
    3 25) (codes "a")) ∷ [])

const_of_a_truth_value_is : checked Three Plain const_of_a_truth_value ≡ Err (Mismatch (on 2 11))
const_of_a_truth_value_is = refl

-- const K = if 1 < 2 then 3 else 4
-- def main(a: int): int = a
abbrev pub const_with_a_comparison : List RawItemTree
const_with_a_comparison =
    (item_const (on 2 7) (codes "K") (raw_if (on 2 11) (raw_binary (on 2 16) (Compare Lt) (raw_lit (on 2 14) (pos 1)) (raw_lit (on 2 18) (pos 2))) (raw_lit
    (on 2 25) (pos 3)) (raw_lit (on 2 32) (pos 4))) ∷ def (on 3 1) (codes "main") (param (on 3 10) (codes "a") Int ∷ []) (Int ∷ []) (raw_name (on 3 25)
    (codes "a")) ∷ [])

const_with_a_comparison_is : checked Three Plain const_with_a_comparison ≡ Err (NotConstant (on 2 16))
const_with_a_comparison_is = refl

-- def f(): int = 3
-- const K = f()
-- def main(a: int): int = a
abbrev pub const_with_a_call : List RawItemTree
const_with_a_call =
    (def (on 2 1) (codes "f") [] (Int ∷ []) (raw_lit (on 2 16) (pos 3)) ∷ item_const (on 3 7) (codes "K") (raw_call (on 3 11) (codes "f") (raws_of [])) ∷ def
    (on 4 1) (codes "main") (param (on 4 10) (codes "a") Int ∷ []) (Int ∷ []) (raw_name (on 4 25) (codes "a")) ∷ [])

const_with_a_call_is : checked Three Plain const_with_a_call ≡ Err (NotConstant (on 3 11))
const_with_a_call_is = refl

-- const K = a
-- def main(a: int): int = a
abbrev pub const_with_an_unknown_name : List RawItemTree
const_with_an_unknown_name =
    (item_const (on 2 7) (codes "K") (raw_name (on 2 11) (codes "a")) ∷ def (on 3 1) (codes "main") (param (on 3 10) (codes "a") Int ∷ []) (Int ∷ [])
    (raw_name (on 3 25) (codes "a")) ∷ [])

const_with_an_unknown_name_is : checked Three Plain const_with_an_unknown_name ≡ Err (UnknownName (on 2 11))
const_with_an_unknown_name_is = refl

-- const M = 170141183460469231731687303715884105727
-- const K = 1 + (M + 1)
-- def main(a: int): int = a
abbrev pub const_past_the_limit : List RawItemTree
const_past_the_limit =
    (item_const (on 2 7) (codes "M") (raw_lit (on 2 11) (pos 170141183460469231731687303715884105727)) ∷ item_const (on 3 7) (codes "K") (raw_binary (on 3
    13) Add (raw_lit (on 3 11) (pos 1)) (raw_group (on 3 15) (raw_binary (on 3 18) Add (raw_name (on 3 16) (codes "M")) (raw_lit (on 3 20) (pos 1))))) ∷ def
    (on 4 1) (codes "main") (param (on 4 10) (codes "a") Int ∷ []) (Int ∷ []) (raw_name (on 4 25) (codes "a")) ∷ [])

const_past_the_limit_is : checked Three Plain const_past_the_limit ≡ Err (ConstantPast (on 3 18))
const_past_the_limit_is = refl

-- const M = -170141183460469231731687303715884105727 - 1
-- def main(a: int): int = a
abbrev pub const_past_the_limit_below : List RawItemTree
const_past_the_limit_below =
    (item_const (on 2 7) (codes "M") (raw_binary (on 2 52) Sub (raw_neg (on 2 11) (raw_lit (on 2 12) (pos 170141183460469231731687303715884105727))) (raw_lit
    (on 2 54) (pos 1))) ∷ def (on 3 1) (codes "main") (param (on 3 10) (codes "a") Int ∷ []) (Int ∷ []) (raw_name (on 3 25) (codes "a")) ∷ [])

const_past_the_limit_below_is : checked Three Plain const_past_the_limit_below ≡ Err (ConstantPast (on 2 52))
const_past_the_limit_below_is = refl

-- const Z = 0
-- def main(a: int): int = choose (x: int) where Z divides x
abbrev pub constant_below_1_divides : List RawItemTree
constant_below_1_divides =
    (item_const (on 2 7) (codes "Z") (raw_lit (on 2 11) (pos 0)) ∷ def (on 3 1) (codes "main") (param (on 3 10) (codes "a") Int ∷ []) (Int ∷ []) (raw_choose
    (on 3 25) (param (on 3 33) (codes "x") Int ∷ []) [] no_given (raw_divides (on 3 47) (number_name (on 3 47) (codes "Z")) (raw_name (on 3 57) (codes "x")))
    no_aim) ∷ [])

constant_below_1_divides_is : checked Three Plain constant_below_1_divides ≡ Err (ConstantBelow (on 3 47))
constant_below_1_divides_is = refl

-- const N = -2
-- def main(a: int): int = mod(a, N)
abbrev pub constant_below_1_in_mod : List RawItemTree
constant_below_1_in_mod =
    (item_const (on 2 7) (codes "N") (raw_neg (on 2 11) (raw_lit (on 2 12) (pos 2))) ∷ def (on 3 1) (codes "main") (param (on 3 10) (codes "a") Int ∷ [])
    (Int ∷ []) (raw_mod (on 3 25) (raw_name (on 3 29) (codes "a")) (number_name (on 3 32) (codes "N"))) ∷ [])

constant_below_1_in_mod_is : checked Three Plain constant_below_1_in_mod ≡ Err (ConstantBelow (on 3 32))
constant_below_1_in_mod_is = refl

-- def main(a: int, k: int): int = choose (x: int) where k divides x
abbrev pub divides_by_a_variable : List RawItemTree
divides_by_a_variable =
    (def (on 2 1) (codes "main") (param (on 2 10) (codes "a") Int ∷ param (on 2 18) (codes "k") Int ∷ []) (Int ∷ []) (raw_choose (on 2 33) (param (on 2 41)
    (codes "x") Int ∷ []) [] no_given (raw_divides (on 2 55) (number_name (on 2 55) (codes "k")) (raw_name (on 2 65) (codes "x"))) no_aim) ∷ [])

divides_by_a_variable_is : checked Three Plain divides_by_a_variable ≡ Err (NotConstant (on 2 55))
divides_by_a_variable_is = refl

-- const STEP = 4
-- def main(a: int): int = div(a, STE)
abbrev pub div_by_an_unknown_name : List RawItemTree
div_by_an_unknown_name =
    (item_const (on 2 7) (codes "STEP") (raw_lit (on 2 14) (pos 4)) ∷ def (on 3 1) (codes "main") (param (on 3 10) (codes "a") Int ∷ []) (Int ∷ []) (raw_div
    (on 3 25) (raw_name (on 3 29) (codes "a")) (number_name (on 3 32) (codes "STE"))) ∷ [])

div_by_an_unknown_name_is : checked Three Plain div_by_an_unknown_name ≡ Err (UnknownName (on 3 32))
div_by_an_unknown_name_is = refl

-- def main(a: int): int = match a with { a * i then i ; j then j }
abbrev pub pattern_with_a_variable_as_factor : List RawItemTree
pattern_with_a_variable_as_factor =
    (def (on 2 1) (codes "main") (param (on 2 10) (codes "a") Int ∷ []) (Int ∷ []) (raw_match (on 2 25) (raw_name (on 2 31) (codes "a")) (raw_arms_of
    (raw_arm (part (on 2 40) false (Some (number_name (on 2 40) (codes "a"))) (on 2 44) (codes "i") ∷ []) (pos 0) (raw_name (on 2 51) (codes "i")) ∷ raw_arm
    (part (on 2 55) false None (on 2 55) (codes "j") ∷ []) (pos 0) (raw_name (on 2 62) (codes "j")) ∷ []))) ∷ [])

pattern_with_a_variable_as_factor_is : checked Three Plain pattern_with_a_variable_as_factor ≡ Err (NotConstant (on 2 40))
pattern_with_a_variable_as_factor_is = refl

-- const M = 170141183460469231731687303715884105727
-- def main(a: int): int = match a with { M + i + M then i ; j then j }
abbrev pub pattern_constant_past_the_limit : List RawItemTree
pattern_constant_past_the_limit =
    (item_const (on 2 7) (codes "M") (raw_lit (on 2 11) (pos 170141183460469231731687303715884105727)) ∷ def (on 3 1) (codes "main") (param (on 3 10) (codes
    "a") Int ∷ []) (Int ∷ []) (raw_match (on 3 25) (raw_name (on 3 31) (codes "a")) (raw_arms_of (raw_arm (part (on 3 40) false None (on 3 40) (codes "M") ∷
    part (on 3 44) false None (on 3 44) (codes "i") ∷ part (on 3 48) false None (on 3 48) (codes "M") ∷ []) (pos 0) (raw_name (on 3 55) (codes "i")) ∷
    raw_arm (part (on 3 59) false None (on 3 59) (codes "j") ∷ []) (pos 0) (raw_name (on 3 66) (codes "j")) ∷ []))) ∷ [])

pattern_constant_past_the_limit_is : checked Three Plain pattern_constant_past_the_limit ≡ Err (ConstantPast (on 3 40))
pattern_constant_past_the_limit_is = refl

-- def main(p: bool): bool = p == p == p
abbrev pub chain_of_truth_values : List RawItemTree
chain_of_truth_values =
    (def (on 2 1) (codes "main") (param (on 2 10) (codes "p") Truth ∷ []) (Truth ∷ []) (raw_chain (on 2 29) (Eq ∷ Eq ∷ []) ((on 2 29) ∷ (on 2 34) ∷ [])
    (raws_of ((raw_name (on 2 27) (codes "p")) ∷ (raw_name (on 2 32) (codes "p")) ∷ (raw_name (on 2 37) (codes "p")) ∷ []))) ∷ [])

chain_of_truth_values_is : checked Three Plain chain_of_truth_values ≡ Err (Mismatch (on 2 29))
chain_of_truth_values_is = refl

-- def main(s: set): bool = s == s == s
abbrev pub chain_of_sets : List RawItemTree
chain_of_sets =
    (def (on 2 1) (codes "main") (param (on 2 10) (codes "s") Set ∷ []) (Truth ∷ []) (raw_chain (on 2 28) (Eq ∷ Eq ∷ []) ((on 2 28) ∷ (on 2 33) ∷ [])
    (raws_of ((raw_name (on 2 26) (codes "s")) ∷ (raw_name (on 2 31) (codes "s")) ∷ (raw_name (on 2 36) (codes "s")) ∷ []))) ∷ [])

chain_of_sets_is : checked Three Plain chain_of_sets ≡ Err (Mismatch (on 2 28))
chain_of_sets_is = refl

-- def main(s: set, a: int): bool = 0 <= a < s
abbrev pub chain_with_one_set : List RawItemTree
chain_with_one_set =
    (def (on 2 1) (codes "main") (param (on 2 10) (codes "s") Set ∷ param (on 2 18) (codes "a") Int ∷ []) (Truth ∷ []) (raw_chain (on 2 36) (Le ∷ Lt ∷ [])
    ((on 2 36) ∷ (on 2 41) ∷ []) (raws_of ((raw_lit (on 2 34) (pos 0)) ∷ (raw_name (on 2 39) (codes "a")) ∷ (raw_name (on 2 43) (codes "s")) ∷ []))) ∷ [])

chain_with_one_set_is : checked Three Plain chain_with_one_set ≡ Err (Mismatch (on 2 41))
chain_with_one_set_is = refl

-- def main(s: set): int = min(1, s)
abbrev pub min_of_a_set : List RawItemTree
min_of_a_set =
    (def (on 2 1) (codes "main") (param (on 2 10) (codes "s") Set ∷ []) (Int ∷ []) (raw_min (on 2 25) (raws_of ((raw_lit (on 2 29) (pos 1)) ∷ (raw_name (on 2
    32) (codes "s")) ∷ []))) ∷ [])

min_of_a_set_is : checked Three Plain min_of_a_set ≡ Err (Mismatch (on 2 25))
min_of_a_set_is = refl

-- def main(a: int): int = if a ==> true then 1 else 2
abbrev pub implication_of_numbers : List RawItemTree
implication_of_numbers =
    (def (on 2 1) (codes "main") (param (on 2 10) (codes "a") Int ∷ []) (Int ∷ []) (raw_if (on 2 25) (raw_binary (on 2 30) Implies (raw_name (on 2 28) (codes
    "a")) (raw_truth (on 2 34) true)) (raw_lit (on 2 44) (pos 1)) (raw_lit (on 2 51) (pos 2))) ∷ [])

implication_of_numbers_is : checked Three Plain implication_of_numbers ≡ Err (Mismatch (on 2 30))
implication_of_numbers_is = refl

-- def main(a: int): int = choose (x: int) given a where x == a
abbrev pub given_is_a_number : List RawItemTree
given_is_a_number =
    (def (on 2 1) (codes "main") (param (on 2 10) (codes "a") Int ∷ []) (Int ∷ []) (raw_choose (on 2 25) (param (on 2 33) (codes "x") Int ∷ []) []
    (given_that (on 2 41) (raw_name (on 2 47) (codes "a"))) (raw_binary (on 2 57) (Compare Eq) (raw_name (on 2 55) (codes "x")) (raw_name (on 2 60) (codes
    "a"))) no_aim) ∷ [])

given_is_a_number_is : checked Three Plain given_is_a_number ≡ Err (Mismatch (on 2 41))
given_is_a_number_is = refl

-- def main(a: int): int = choose (x: int) where x + a
abbrev pub relation_is_a_number : List RawItemTree
relation_is_a_number =
    (def (on 2 1) (codes "main") (param (on 2 10) (codes "a") Int ∷ []) (Int ∷ []) (raw_choose (on 2 25) (param (on 2 33) (codes "x") Int ∷ []) [] no_given
    (raw_binary (on 2 49) Add (raw_name (on 2 47) (codes "x")) (raw_name (on 2 51) (codes "a"))) no_aim) ∷ [])

relation_is_a_number_is : checked Three Plain relation_is_a_number ≡ Err (Mismatch (on 2 25))
relation_is_a_number_is = refl

-- def main(a: int): int = choose (x: int) where x > a minimise x > 3
abbrev pub minimise_a_truth_value : List RawItemTree
minimise_a_truth_value =
    (def (on 2 1) (codes "main") (param (on 2 10) (codes "a") Int ∷ []) (Int ∷ []) (raw_choose (on 2 25) (param (on 2 33) (codes "x") Int ∷ []) [] no_given
    (raw_binary (on 2 49) (Compare Gt) (raw_name (on 2 47) (codes "x")) (raw_name (on 2 51) (codes "a"))) (aim_at (on 2 53) Least (raw_binary (on 2 64)
    (Compare Gt) (raw_name (on 2 62) (codes "x")) (raw_lit (on 2 66) (pos 3))))) ∷ [])

minimise_a_truth_value_is : checked Three Plain minimise_a_truth_value ≡ Err (Mismatch (on 2 53))
minimise_a_truth_value_is = refl

-- def main(s: set): set = choose (t: set) where t subset s minimise t
abbrev pub minimise_a_set : List RawItemTree
minimise_a_set =
    (def (on 2 1) (codes "main") (param (on 2 10) (codes "s") Set ∷ []) (Set ∷ []) (raw_choose (on 2 25) (param (on 2 33) (codes "t") Set ∷ []) [] no_given
    (raw_binary (on 2 49) Subset (raw_name (on 2 47) (codes "t")) (raw_name (on 2 56) (codes "s"))) (aim_at (on 2 58) Least (raw_name (on 2 67) (codes
    "t")))) ∷ [])

minimise_a_set_is : checked Three Plain minimise_a_set ≡ Err (Mismatch (on 2 58))
minimise_a_set_is = refl

-- def main(a: int): int = choose (x: int) where x > a minimise (x, true)
abbrev pub minimise_a_tuple_with_a_truth_value : List RawItemTree
minimise_a_tuple_with_a_truth_value =
    (def (on 2 1) (codes "main") (param (on 2 10) (codes "a") Int ∷ []) (Int ∷ []) (raw_choose (on 2 25) (param (on 2 33) (codes "x") Int ∷ []) [] no_given
    (raw_binary (on 2 49) (Compare Gt) (raw_name (on 2 47) (codes "x")) (raw_name (on 2 51) (codes "a"))) (aim_at (on 2 53) Least (raw_tuple (on 2 62)
    (raws_of ((raw_name (on 2 63) (codes "x")) ∷ (raw_truth (on 2 66) true) ∷ []))))) ∷ [])

minimise_a_tuple_with_a_truth_value_is : checked Three Plain minimise_a_tuple_with_a_truth_value ≡ Err (Mismatch (on 2 53))
minimise_a_tuple_with_a_truth_value_is = refl

-- def main(a: int): bool = a
abbrev pub body_of_another_type : List RawItemTree
body_of_another_type =
    (def (on 2 1) (codes "main") (param (on 2 10) (codes "a") Int ∷ []) (Truth ∷ []) (raw_name (on 2 26) (codes "a")) ∷ [])

body_of_another_type_is : checked Three Plain body_of_another_type ≡ Err (Mismatch (on 2 26))
body_of_another_type_is = refl

-- def main(a: int): int = (a, a)
abbrev pub tuple_body_for_one_result : List RawItemTree
tuple_body_for_one_result =
    (def (on 2 1) (codes "main") (param (on 2 10) (codes "a") Int ∷ []) (Int ∷ []) (raw_tuple (on 2 25) (raws_of ((raw_name (on 2 26) (codes "a")) ∷
    (raw_name (on 2 29) (codes "a")) ∷ []))) ∷ [])

tuple_body_for_one_result_is : checked Three Plain tuple_body_for_one_result ≡ Err (Mismatch (on 2 25))
tuple_body_for_one_result_is = refl

-- def main(a: int): int = choose (p: bool) where p
abbrev pub truth_output_for_a_number : List RawItemTree
truth_output_for_a_number =
    (def (on 2 1) (codes "main") (param (on 2 10) (codes "a") Int ∷ []) (Int ∷ []) (raw_choose (on 2 25) (param (on 2 33) (codes "p") Truth ∷ []) [] no_given
    (raw_name (on 2 48) (codes "p")) no_aim) ∷ [])

truth_output_for_a_number_is : checked Three Plain truth_output_for_a_number ≡ Err (Mismatch (on 2 25))
truth_output_for_a_number_is = refl

-- def main(a: int): int = if a > 0 then 1 else true
abbrev pub branches_of_two_types : List RawItemTree
branches_of_two_types =
    (def (on 2 1) (codes "main") (param (on 2 10) (codes "a") Int ∷ []) (Int ∷ []) (raw_if (on 2 25) (raw_binary (on 2 30) (Compare Gt) (raw_name (on 2 28)
    (codes "a")) (raw_lit (on 2 32) (pos 0))) (raw_lit (on 2 39) (pos 1)) (raw_truth (on 2 46) true)) ∷ [])

branches_of_two_types_is : checked Three Plain branches_of_two_types ≡ Err (Mismatch (on 2 25))
branches_of_two_types_is = refl

-- def main(a: int): int = match a with { 2 * i then i ; i then true }
abbrev pub arms_of_two_types : List RawItemTree
arms_of_two_types =
    (def (on 2 1) (codes "main") (param (on 2 10) (codes "a") Int ∷ []) (Int ∷ []) (raw_match (on 2 25) (raw_name (on 2 31) (codes "a")) (raw_arms_of
    (raw_arm (part (on 2 40) false (Some (number_lit (pos 2))) (on 2 44) (codes "i") ∷ []) (pos 0) (raw_name (on 2 51) (codes "i")) ∷ raw_arm (part (on 2 55)
    false None (on 2 55) (codes "i") ∷ []) (pos 0) (raw_truth (on 2 62) true) ∷ []))) ∷ [])

arms_of_two_types_is : checked Three Plain arms_of_two_types ≡ Err (Mismatch (on 2 25))
arms_of_two_types_is = refl

-- def main(a: int, s: set): bool = a == s
abbrev pub sides_of_two_types : List RawItemTree
sides_of_two_types =
    (def (on 2 1) (codes "main") (param (on 2 10) (codes "a") Int ∷ param (on 2 18) (codes "s") Set ∷ []) (Truth ∷ []) (raw_binary (on 2 36) (Compare Eq)
    (raw_name (on 2 34) (codes "a")) (raw_name (on 2 39) (codes "s"))) ∷ [])

sides_of_two_types_is : checked Three Plain sides_of_two_types ≡ Err (Mismatch (on 2 36))
sides_of_two_types_is = refl

-- def f(a: int): int = a
-- def main(a: int): int = f((a, a))
abbrev pub tuple_as_an_argument : List RawItemTree
tuple_as_an_argument =
    (def (on 2 1) (codes "f") (param (on 2 7) (codes "a") Int ∷ []) (Int ∷ []) (raw_name (on 2 22) (codes "a")) ∷ def (on 3 1) (codes "main") (param (on 3
    10) (codes "a") Int ∷ []) (Int ∷ []) (raw_call (on 3 25) (codes "f") (raws_of ((raw_tuple (on 3 27) (raws_of ((raw_name (on 3 28) (codes "a")) ∷
    (raw_name (on 3 31) (codes "a")) ∷ []))) ∷ []))) ∷ [])

tuple_as_an_argument_is : checked Three Plain tuple_as_an_argument ≡ Err (Mismatch (on 3 25))
tuple_as_an_argument_is = refl

-- def even(x: int): bool = 2 divides x
-- def main(a: int): int = if even(a, 1) then 1 else 2
abbrev pub call_with_a_wrong_count : List RawItemTree
call_with_a_wrong_count =
    (def (on 2 1) (codes "even") (param (on 2 10) (codes "x") Int ∷ []) (Truth ∷ []) (raw_divides (on 2 26) (number_lit (pos 2)) (raw_name (on 2 36) (codes
    "x"))) ∷ def (on 3 1) (codes "main") (param (on 3 10) (codes "a") Int ∷ []) (Int ∷ []) (raw_if (on 3 25) (raw_call (on 3 28) (codes "even") (raws_of
    ((raw_name (on 3 33) (codes "a")) ∷ (raw_lit (on 3 36) (pos 1)) ∷ []))) (raw_lit (on 3 44) (pos 1)) (raw_lit (on 3 51) (pos 2))) ∷ [])

call_with_a_wrong_count_is : checked Three Plain call_with_a_wrong_count ≡ Err (WrongCount (on 3 28))
call_with_a_wrong_count_is = refl

-- def main(a: int): int = let (x, y) = a in x
abbrev pub let_with_a_wrong_count : List RawItemTree
let_with_a_wrong_count =
    (def (on 2 1) (codes "main") (param (on 2 10) (codes "a") Int ∷ []) (Int ∷ []) (raw_let (on 2 25) ((codes "x") ∷ (codes "y") ∷ []) ((on 2 30) ∷ (on 2 33)
    ∷ []) (raw_name (on 2 38) (codes "a")) (raw_name (on 2 43) (codes "x"))) ∷ [])

let_with_a_wrong_count_is : checked Three Plain let_with_a_wrong_count ≡ Err (WrongCount (on 2 25))
let_with_a_wrong_count_is = refl

-- def main(a: int): int = g(a)
-- def g(a: int): int = a
abbrev pub calls_later_function : List RawItemTree
calls_later_function =
    (def (on 2 1) (codes "main") (param (on 2 10) (codes "a") Int ∷ []) (Int ∷ []) (raw_call (on 2 25) (codes "g") (raws_of ((raw_name (on 2 27) (codes "a"))
    ∷ []))) ∷ def (on 3 1) (codes "g") (param (on 3 7) (codes "a") Int ∷ []) (Int ∷ []) (raw_name (on 3 22) (codes "a")) ∷ [])

calls_later_function_is : checked Three Plain calls_later_function ≡ Err (CallsLater (on 2 25))
calls_later_function_is = refl

-- def f(a: int): int = f(a)
-- def main(a: int): int = a
abbrev pub calls_itself : List RawItemTree
calls_itself =
    (def (on 2 1) (codes "f") (param (on 2 7) (codes "a") Int ∷ []) (Int ∷ []) (raw_call (on 2 22) (codes "f") (raws_of ((raw_name (on 2 24) (codes "a")) ∷
    []))) ∷ def (on 3 1) (codes "main") (param (on 3 10) (codes "a") Int ∷ []) (Int ∷ []) (raw_name (on 3 25) (codes "a")) ∷ [])

calls_itself_is : checked Three Plain calls_itself ≡ Err (CallsLater (on 2 22))
calls_itself_is = refl

-- def f(a: int): int = a
abbrev pub no_main : List RawItemTree
no_main =
    (def (on 2 1) (codes "f") (param (on 2 7) (codes "a") Int ∷ []) (Int ∷ []) (raw_name (on 2 22) (codes "a")) ∷ [])

no_main_is : checked Three Plain no_main ≡ Err NoMain
no_main_is = refl

-- def main(a: int): (int, int) = choose (x: int, y: int) where x * y == a
abbrev pub product_of_outputs : List RawItemTree
product_of_outputs =
    (def (on 2 1) (codes "main") (param (on 2 10) (codes "a") Int ∷ []) (Int ∷ Int ∷ []) (raw_choose (on 2 32) (param (on 2 40) (codes "x") Int ∷ param (on 2
    48) (codes "y") Int ∷ []) [] no_given (raw_binary (on 2 68) (Compare Eq) (raw_binary (on 2 64) Mul (raw_name (on 2 62) (codes "x")) (raw_name (on 2 66)
    (codes "y"))) (raw_name (on 2 71) (codes "a"))) no_aim) ∷ [])

product_of_outputs_is : checked Three Plain product_of_outputs ≡ Err (NotLinear (on 2 64))
product_of_outputs_is = refl

-- def main(a: int): int = choose (x: int) where x * x <= a < (x + 1) * (x + 1)
abbrev pub square_in_a_relation : List RawItemTree
square_in_a_relation =
    (def (on 2 1) (codes "main") (param (on 2 10) (codes "a") Int ∷ []) (Int ∷ []) (raw_choose (on 2 25) (param (on 2 33) (codes "x") Int ∷ []) [] no_given
    (raw_chain (on 2 53) (Le ∷ Lt ∷ []) ((on 2 53) ∷ (on 2 58) ∷ []) (raws_of ((raw_binary (on 2 49) Mul (raw_name (on 2 47) (codes "x")) (raw_name (on 2 51)
    (codes "x"))) ∷ (raw_name (on 2 56) (codes "a")) ∷ (raw_binary (on 2 68) Mul (raw_group (on 2 60) (raw_binary (on 2 63) Add (raw_name (on 2 61) (codes
    "x")) (raw_lit (on 2 65) (pos 1)))) (raw_group (on 2 70) (raw_binary (on 2 73) Add (raw_name (on 2 71) (codes "x")) (raw_lit (on 2 75) (pos 1))))) ∷
    []))) no_aim) ∷ [])

square_in_a_relation_is : checked Three Plain square_in_a_relation ≡ Err (NotLinear (on 2 49))
square_in_a_relation_is = refl

-- def main(a: int, b: int): int = choose (x: int) where a * x == b
abbrev pub product_with_an_input : List RawItemTree
product_with_an_input =
    (def (on 2 1) (codes "main") (param (on 2 10) (codes "a") Int ∷ param (on 2 18) (codes "b") Int ∷ []) (Int ∷ []) (raw_choose (on 2 33) (param (on 2 41)
    (codes "x") Int ∷ []) [] no_given (raw_binary (on 2 61) (Compare Eq) (raw_binary (on 2 57) Mul (raw_name (on 2 55) (codes "a")) (raw_name (on 2 59)
    (codes "x"))) (raw_name (on 2 64) (codes "b"))) no_aim) ∷ [])

product_with_an_input_is : checked Three Plain product_with_an_input ≡ Err (NotLinear (on 2 57))
product_with_an_input_is = refl

-- def main(a: int, b: int): int = choose (x: int) where x == a * b
abbrev pub product_of_inputs : List RawItemTree
product_of_inputs =
    (def (on 2 1) (codes "main") (param (on 2 10) (codes "a") Int ∷ param (on 2 18) (codes "b") Int ∷ []) (Int ∷ []) (raw_choose (on 2 33) (param (on 2 41)
    (codes "x") Int ∷ []) [] no_given (raw_binary (on 2 57) (Compare Eq) (raw_name (on 2 55) (codes "x")) (raw_binary (on 2 62) Mul (raw_name (on 2 60)
    (codes "a")) (raw_name (on 2 64) (codes "b")))) no_aim) ∷ [])

product_of_inputs_is : checked Three Plain product_of_inputs ≡ Err (NotLinear (on 2 62))
product_of_inputs_is = refl

-- def main(a: int, b: int): int = choose (x: int) where a * x == b && x * x == a
abbrev pub product_of_two_unknowns_for_run : List RawItemTree
product_of_two_unknowns_for_run =
    (def (on 2 1) (codes "main") (param (on 2 10) (codes "a") Int ∷ param (on 2 18) (codes "b") Int ∷ []) (Int ∷ []) (raw_choose (on 2 33) (param (on 2 41)
    (codes "x") Int ∷ []) [] no_given (raw_binary (on 2 66) And (raw_binary (on 2 61) (Compare Eq) (raw_binary (on 2 57) Mul (raw_name (on 2 55) (codes "a"))
    (raw_name (on 2 59) (codes "x"))) (raw_name (on 2 64) (codes "b"))) (raw_binary (on 2 75) (Compare Eq) (raw_binary (on 2 71) Mul (raw_name (on 2 69)
    (codes "x")) (raw_name (on 2 73) (codes "x"))) (raw_name (on 2 78) (codes "a")))) no_aim) ∷ [])

product_of_two_unknowns_for_run_is : checked Three Late product_of_two_unknowns_for_run ≡ Err (NotLinear (on 2 71))
product_of_two_unknowns_for_run_is = refl

-- def main(s: set, n: int): int = choose (x: int) where n * card(s) == x
abbrev pub card_times_an_input : List RawItemTree
card_times_an_input =
    (def (on 2 1) (codes "main") (param (on 2 10) (codes "s") Set ∷ param (on 2 18) (codes "n") Int ∷ []) (Int ∷ []) (raw_choose (on 2 33) (param (on 2 41)
    (codes "x") Int ∷ []) [] no_given (raw_binary (on 2 67) (Compare Eq) (raw_binary (on 2 57) Mul (raw_name (on 2 55) (codes "n")) (raw_card (on 2 59)
    (raw_name (on 2 64) (codes "s")))) (raw_name (on 2 70) (codes "x"))) no_aim) ∷ [])

card_times_an_input_is : checked Three Plain card_times_an_input ≡ Err (NotLinear (on 2 57))
card_times_an_input_is = refl

-- def main(a: int): int = choose (x: int) where let y = x + 1 in x * y == a
abbrev pub product_of_two_unknowns_by_let : List RawItemTree
product_of_two_unknowns_by_let =
    (def (on 2 1) (codes "main") (param (on 2 10) (codes "a") Int ∷ []) (Int ∷ []) (raw_choose (on 2 25) (param (on 2 33) (codes "x") Int ∷ []) [] no_given
    (raw_let (on 2 47) ((codes "y") ∷ []) ((on 2 51) ∷ []) (raw_binary (on 2 57) Add (raw_name (on 2 55) (codes "x")) (raw_lit (on 2 59) (pos 1)))
    (raw_binary (on 2 70) (Compare Eq) (raw_binary (on 2 66) Mul (raw_name (on 2 64) (codes "x")) (raw_name (on 2 68) (codes "y"))) (raw_name (on 2 73)
    (codes "a")))) no_aim) ∷ [])

product_of_two_unknowns_by_let_is : checked Three Plain product_of_two_unknowns_by_let ≡ Err (NotLinear (on 2 66))
product_of_two_unknowns_by_let_is = refl

-- def square(x: int): int = x * x
-- def main(a: int): int = choose (x: int) where square(x) == a
abbrev pub product_of_two_unknowns_in_a_call : List RawItemTree
product_of_two_unknowns_in_a_call =
    (def (on 2 1) (codes "square") (param (on 2 12) (codes "x") Int ∷ []) (Int ∷ []) (raw_binary (on 2 29) Mul (raw_name (on 2 27) (codes "x")) (raw_name (on
    2 31) (codes "x"))) ∷ def (on 3 1) (codes "main") (param (on 3 10) (codes "a") Int ∷ []) (Int ∷ []) (raw_choose (on 3 25) (param (on 3 33) (codes "x")
    Int ∷ []) [] no_given (raw_binary (on 3 57) (Compare Eq) (raw_call (on 3 47) (codes "square") (raws_of ((raw_name (on 3 54) (codes "x")) ∷ [])))
    (raw_name (on 3 60) (codes "a"))) no_aim) ∷ [])

product_of_two_unknowns_in_a_call_is : checked Three Plain product_of_two_unknowns_in_a_call ≡ Err (NotLinear (on 3 47))
product_of_two_unknowns_in_a_call_is = refl

-- def times(x: int, y: int): int = x * y
-- def square(x: int): int = times(x, x)
-- def main(a: int): int = choose (x: int) where square(x) == a
abbrev pub product_in_a_call_of_a_call : List RawItemTree
product_in_a_call_of_a_call =
    (def (on 2 1) (codes "times") (param (on 2 11) (codes "x") Int ∷ param (on 2 19) (codes "y") Int ∷ []) (Int ∷ []) (raw_binary (on 2 36) Mul (raw_name (on
    2 34) (codes "x")) (raw_name (on 2 38) (codes "y"))) ∷ def (on 3 1) (codes "square") (param (on 3 12) (codes "x") Int ∷ []) (Int ∷ []) (raw_call (on 3
    27) (codes "times") (raws_of ((raw_name (on 3 33) (codes "x")) ∷ (raw_name (on 3 36) (codes "x")) ∷ []))) ∷ def (on 4 1) (codes "main") (param (on 4 10)
    (codes "a") Int ∷ []) (Int ∷ []) (raw_choose (on 4 25) (param (on 4 33) (codes "x") Int ∷ []) [] no_given (raw_binary (on 4 57) (Compare Eq) (raw_call
    (on 4 47) (codes "square") (raws_of ((raw_name (on 4 54) (codes "x")) ∷ []))) (raw_name (on 4 60) (codes "a"))) no_aim) ∷ [])

product_in_a_call_of_a_call_is : checked Three Plain product_in_a_call_of_a_call ≡ Err (NotLinear (on 4 47))
product_in_a_call_of_a_call_is = refl

-- def times(x: int, y: int): int = x * y
-- def main(a: int, b: int): int = choose (x: int) where times(a, x) == b
abbrev pub product_with_inputs_in_a_call : List RawItemTree
product_with_inputs_in_a_call =
    (def (on 2 1) (codes "times") (param (on 2 11) (codes "x") Int ∷ param (on 2 19) (codes "y") Int ∷ []) (Int ∷ []) (raw_binary (on 2 36) Mul (raw_name (on
    2 34) (codes "x")) (raw_name (on 2 38) (codes "y"))) ∷ def (on 3 1) (codes "main") (param (on 3 10) (codes "a") Int ∷ param (on 3 18) (codes "b") Int ∷
    []) (Int ∷ []) (raw_choose (on 3 33) (param (on 3 41) (codes "x") Int ∷ []) [] no_given (raw_binary (on 3 67) (Compare Eq) (raw_call (on 3 55) (codes
    "times") (raws_of ((raw_name (on 3 61) (codes "a")) ∷ (raw_name (on 3 64) (codes "x")) ∷ []))) (raw_name (on 3 70) (codes "b"))) no_aim) ∷ [])

product_with_inputs_in_a_call_is : checked Three Plain product_with_inputs_in_a_call ≡ Err (NotLinear (on 3 55))
product_with_inputs_in_a_call_is = refl

-- def half(a: int): int = choose (h: int) where 2 * h == a
-- def main(a: int): int = choose (x: int) where x == half(a)
abbrev pub call_that_holds_a_choose : List RawItemTree
call_that_holds_a_choose =
    (def (on 2 1) (codes "half") (param (on 2 10) (codes "a") Int ∷ []) (Int ∷ []) (raw_choose (on 2 25) (param (on 2 33) (codes "h") Int ∷ []) [] no_given
    (raw_binary (on 2 53) (Compare Eq) (raw_binary (on 2 49) Mul (raw_lit (on 2 47) (pos 2)) (raw_name (on 2 51) (codes "h"))) (raw_name (on 2 56) (codes
    "a"))) no_aim) ∷ def (on 3 1) (codes "main") (param (on 3 10) (codes "a") Int ∷ []) (Int ∷ []) (raw_choose (on 3 25) (param (on 3 33) (codes "x") Int ∷
    []) [] no_given (raw_binary (on 3 49) (Compare Eq) (raw_name (on 3 47) (codes "x")) (raw_call (on 3 52) (codes "half") (raws_of ((raw_name (on 3 57)
    (codes "a")) ∷ [])))) no_aim) ∷ [])

call_that_holds_a_choose_is : checked Three Plain call_that_holds_a_choose ≡ Err (NotLinear (on 3 52))
call_that_holds_a_choose_is = refl

-- def half(a: int): int = choose (h: int) where 2 * h == a
-- def f(a: int): int = half(a) + 1
-- def main(a: int): int = choose (x: int) where x == f(a)
abbrev pub call_of_a_call_that_holds_a_choose : List RawItemTree
call_of_a_call_that_holds_a_choose =
    (def (on 2 1) (codes "half") (param (on 2 10) (codes "a") Int ∷ []) (Int ∷ []) (raw_choose (on 2 25) (param (on 2 33) (codes "h") Int ∷ []) [] no_given
    (raw_binary (on 2 53) (Compare Eq) (raw_binary (on 2 49) Mul (raw_lit (on 2 47) (pos 2)) (raw_name (on 2 51) (codes "h"))) (raw_name (on 2 56) (codes
    "a"))) no_aim) ∷ def (on 3 1) (codes "f") (param (on 3 7) (codes "a") Int ∷ []) (Int ∷ []) (raw_binary (on 3 30) Add (raw_call (on 3 22) (codes "half")
    (raws_of ((raw_name (on 3 27) (codes "a")) ∷ []))) (raw_lit (on 3 32) (pos 1))) ∷ def (on 4 1) (codes "main") (param (on 4 10) (codes "a") Int ∷ []) (Int
    ∷ []) (raw_choose (on 4 25) (param (on 4 33) (codes "x") Int ∷ []) [] no_given (raw_binary (on 4 49) (Compare Eq) (raw_name (on 4 47) (codes "x"))
    (raw_call (on 4 52) (codes "f") (raws_of ((raw_name (on 4 54) (codes "a")) ∷ [])))) no_aim) ∷ [])

call_of_a_call_that_holds_a_choose_is : checked Three Plain call_of_a_call_that_holds_a_choose ≡ Err (NotLinear (on 4 52))
call_of_a_call_that_holds_a_choose_is = refl

-- def odd(a: int): int = match a with { 2 * i then 0 ; i then 1 }
-- def main(a: int): int = choose (x: int) where x == odd(a)
abbrev pub call_that_holds_a_match : List RawItemTree
call_that_holds_a_match =
    (def (on 2 1) (codes "odd") (param (on 2 9) (codes "a") Int ∷ []) (Int ∷ []) (raw_match (on 2 24) (raw_name (on 2 30) (codes "a")) (raw_arms_of (raw_arm
    (part (on 2 39) false (Some (number_lit (pos 2))) (on 2 43) (codes "i") ∷ []) (pos 0) (raw_lit (on 2 50) (pos 0)) ∷ raw_arm (part (on 2 54) false None
    (on 2 54) (codes "i") ∷ []) (pos 0) (raw_lit (on 2 61) (pos 1)) ∷ []))) ∷ def (on 3 1) (codes "main") (param (on 3 10) (codes "a") Int ∷ []) (Int ∷ [])
    (raw_choose (on 3 25) (param (on 3 33) (codes "x") Int ∷ []) [] no_given (raw_binary (on 3 49) (Compare Eq) (raw_name (on 3 47) (codes "x")) (raw_call
    (on 3 52) (codes "odd") (raws_of ((raw_name (on 3 56) (codes "a")) ∷ [])))) no_aim) ∷ [])

call_that_holds_a_match_is : checked Three Plain call_that_holds_a_match ≡ Err (NotLinear (on 3 52))
call_that_holds_a_match_is = refl

-- def main(a: int): int = choose (x: int) where x == (choose (y: int) where y == a)
abbrev pub choose_in_a_relation : List RawItemTree
choose_in_a_relation =
    (def (on 2 1) (codes "main") (param (on 2 10) (codes "a") Int ∷ []) (Int ∷ []) (raw_choose (on 2 25) (param (on 2 33) (codes "x") Int ∷ []) [] no_given
    (raw_binary (on 2 49) (Compare Eq) (raw_name (on 2 47) (codes "x")) (raw_group (on 2 52) (raw_choose (on 2 53) (param (on 2 61) (codes "y") Int ∷ []) []
    no_given (raw_binary (on 2 77) (Compare Eq) (raw_name (on 2 75) (codes "y")) (raw_name (on 2 80) (codes "a"))) no_aim))) no_aim) ∷ [])

choose_in_a_relation_is : checked Three Plain choose_in_a_relation ≡ Err (NotLinear (on 2 53))
choose_in_a_relation_is = refl

-- def main(a: int): int = choose (x: int) where x == (match a with { 2 * i then i ; i then 0 })
abbrev pub match_in_a_relation : List RawItemTree
match_in_a_relation =
    (def (on 2 1) (codes "main") (param (on 2 10) (codes "a") Int ∷ []) (Int ∷ []) (raw_choose (on 2 25) (param (on 2 33) (codes "x") Int ∷ []) [] no_given
    (raw_binary (on 2 49) (Compare Eq) (raw_name (on 2 47) (codes "x")) (raw_group (on 2 52) (raw_match (on 2 53) (raw_name (on 2 59) (codes "a"))
    (raw_arms_of (raw_arm (part (on 2 68) false (Some (number_lit (pos 2))) (on 2 72) (codes "i") ∷ []) (pos 0) (raw_name (on 2 79) (codes "i")) ∷ raw_arm
    (part (on 2 83) false None (on 2 83) (codes "i") ∷ []) (pos 0) (raw_lit (on 2 90) (pos 0)) ∷ []))))) no_aim) ∷ [])

match_in_a_relation_is : checked Three Plain match_in_a_relation ≡ Err (NotLinear (on 2 53))
match_in_a_relation_is = refl

-- def main(s: set): set = choose (t: set) where t subset s && {1} subset t
abbrev pub set_literal_in_a_relation : List RawItemTree
set_literal_in_a_relation =
    (def (on 2 1) (codes "main") (param (on 2 10) (codes "s") Set ∷ []) (Set ∷ []) (raw_choose (on 2 25) (param (on 2 33) (codes "t") Set ∷ []) [] no_given
    (raw_binary (on 2 58) And (raw_binary (on 2 49) Subset (raw_name (on 2 47) (codes "t")) (raw_name (on 2 56) (codes "s"))) (raw_binary (on 2 65) Subset
    (raw_set_of (on 2 61) (raws_of ((raw_lit (on 2 62) (pos 1)) ∷ []))) (raw_name (on 2 72) (codes "t")))) no_aim) ∷ [])

set_literal_in_a_relation_is : checked Three Plain set_literal_in_a_relation ≡ Err (NotLinear (on 2 61))
set_literal_in_a_relation_is = refl

-- def one(a: int): set = {a}
-- def main(s: set): set = choose (t: set) where t subset one(3)
abbrev pub set_literal_in_a_call : List RawItemTree
set_literal_in_a_call =
    (def (on 2 1) (codes "one") (param (on 2 9) (codes "a") Int ∷ []) (Set ∷ []) (raw_set_of (on 2 24) (raws_of ((raw_name (on 2 25) (codes "a")) ∷ []))) ∷
    def (on 3 1) (codes "main") (param (on 3 10) (codes "s") Set ∷ []) (Set ∷ []) (raw_choose (on 3 25) (param (on 3 33) (codes "t") Set ∷ []) [] no_given
    (raw_binary (on 3 49) Subset (raw_name (on 3 47) (codes "t")) (raw_call (on 3 56) (codes "one") (raws_of ((raw_lit (on 3 60) (pos 3)) ∷ [])))) no_aim) ∷
    [])

set_literal_in_a_call_is : checked Three Plain set_literal_in_a_call ≡ Err (NotLinear (on 3 56))
set_literal_in_a_call_is = refl

-- def main(a: int, b: int): int = choose (x: int) given a * b > 0 where x == a
abbrev pub product_of_two_unknowns_in_given : List RawItemTree
product_of_two_unknowns_in_given =
    (def (on 2 1) (codes "main") (param (on 2 10) (codes "a") Int ∷ param (on 2 18) (codes "b") Int ∷ []) (Int ∷ []) (raw_choose (on 2 33) (param (on 2 41)
    (codes "x") Int ∷ []) [] (given_that (on 2 49) (raw_binary (on 2 61) (Compare Gt) (raw_binary (on 2 57) Mul (raw_name (on 2 55) (codes "a")) (raw_name
    (on 2 59) (codes "b"))) (raw_lit (on 2 63) (pos 0)))) (raw_binary (on 2 73) (Compare Eq) (raw_name (on 2 71) (codes "x")) (raw_name (on 2 76) (codes
    "a"))) no_aim) ∷ [])

product_of_two_unknowns_in_given_is : checked Three Plain product_of_two_unknowns_in_given ≡ Err (NotLinear (on 2 57))
product_of_two_unknowns_in_given_is = refl

-- def main(a: int): int = choose (x: int) given a == (choose (y: int) where y == 1) where x == a
abbrev pub choose_in_given : List RawItemTree
choose_in_given =
    (def (on 2 1) (codes "main") (param (on 2 10) (codes "a") Int ∷ []) (Int ∷ []) (raw_choose (on 2 25) (param (on 2 33) (codes "x") Int ∷ []) []
    (given_that (on 2 41) (raw_binary (on 2 49) (Compare Eq) (raw_name (on 2 47) (codes "a")) (raw_group (on 2 52) (raw_choose (on 2 53) (param (on 2 61)
    (codes "y") Int ∷ []) [] no_given (raw_binary (on 2 77) (Compare Eq) (raw_name (on 2 75) (codes "y")) (raw_lit (on 2 80) (pos 1))) no_aim)))) (raw_binary
    (on 2 91) (Compare Eq) (raw_name (on 2 89) (codes "x")) (raw_name (on 2 94) (codes "a"))) no_aim) ∷ [])

choose_in_given_is : checked Three Plain choose_in_given ≡ Err (NotLinear (on 2 53))
choose_in_given_is = refl

-- def main(a: int): int = choose (x: int) where x >= a minimise x * x
abbrev pub product_in_minimise : List RawItemTree
product_in_minimise =
    (def (on 2 1) (codes "main") (param (on 2 10) (codes "a") Int ∷ []) (Int ∷ []) (raw_choose (on 2 25) (param (on 2 33) (codes "x") Int ∷ []) [] no_given
    (raw_binary (on 2 49) (Compare Ge) (raw_name (on 2 47) (codes "x")) (raw_name (on 2 52) (codes "a"))) (aim_at (on 2 54) Least (raw_binary (on 2 65) Mul
    (raw_name (on 2 63) (codes "x")) (raw_name (on 2 67) (codes "x"))))) ∷ [])

product_in_minimise_is : checked Three Plain product_in_minimise ≡ Err (NotLinear (on 2 65))
product_in_minimise_is = refl

-- def main(a: int): int = choose (x: int) where (if x > 0 then x else 1) * x == a
abbrev pub test_of_if_as_a_factor : List RawItemTree
test_of_if_as_a_factor =
    (def (on 2 1) (codes "main") (param (on 2 10) (codes "a") Int ∷ []) (Int ∷ []) (raw_choose (on 2 25) (param (on 2 33) (codes "x") Int ∷ []) [] no_given
    (raw_binary (on 2 76) (Compare Eq) (raw_binary (on 2 72) Mul (raw_group (on 2 47) (raw_if (on 2 48) (raw_binary (on 2 53) (Compare Gt) (raw_name (on 2
    51) (codes "x")) (raw_lit (on 2 55) (pos 0))) (raw_name (on 2 62) (codes "x")) (raw_lit (on 2 69) (pos 1)))) (raw_name (on 2 74) (codes "x"))) (raw_name
    (on 2 79) (codes "a"))) no_aim) ∷ [])

test_of_if_as_a_factor_is : checked Three Plain test_of_if_as_a_factor ≡ Err (NotLinear (on 2 72))
test_of_if_as_a_factor_is = refl

-- def main(a: int): int = choose (x: int) where x * x == a && zz
abbrev pub linear_before_an_unknown_name : List RawItemTree
linear_before_an_unknown_name =
    (def (on 2 1) (codes "main") (param (on 2 10) (codes "a") Int ∷ []) (Int ∷ []) (raw_choose (on 2 25) (param (on 2 33) (codes "x") Int ∷ []) [] no_given
    (raw_binary (on 2 58) And (raw_binary (on 2 53) (Compare Eq) (raw_binary (on 2 49) Mul (raw_name (on 2 47) (codes "x")) (raw_name (on 2 51) (codes "x")))
    (raw_name (on 2 56) (codes "a"))) (raw_name (on 2 61) (codes "zz"))) no_aim) ∷ [])

linear_before_an_unknown_name_is : checked Three Plain linear_before_an_unknown_name ≡ Err (UnknownName (on 2 61))
linear_before_an_unknown_name_is = refl

-- def main(a: int): int = choose (x: int) where x * x == true
abbrev pub type_before_linear : List RawItemTree
type_before_linear =
    (def (on 2 1) (codes "main") (param (on 2 10) (codes "a") Int ∷ []) (Int ∷ []) (raw_choose (on 2 25) (param (on 2 33) (codes "x") Int ∷ []) [] no_given
    (raw_binary (on 2 53) (Compare Eq) (raw_binary (on 2 49) Mul (raw_name (on 2 47) (codes "x")) (raw_name (on 2 51) (codes "x"))) (raw_truth (on 2 56)
    true)) no_aim) ∷ [])

type_before_linear_is : checked Three Plain type_before_linear ≡ Err (Mismatch (on 2 53))
type_before_linear_is = refl

-- def main(a: int): int = choose (x: int) where x > a minimise x + true
abbrev pub minimise_a_sum_with_a_truth_value : List RawItemTree
minimise_a_sum_with_a_truth_value =
    (def (on 2 1) (codes "main") (param (on 2 10) (codes "a") Int ∷ []) (Int ∷ []) (raw_choose (on 2 25) (param (on 2 33) (codes "x") Int ∷ []) [] no_given
    (raw_binary (on 2 49) (Compare Gt) (raw_name (on 2 47) (codes "x")) (raw_name (on 2 51) (codes "a"))) (aim_at (on 2 53) Least (raw_binary (on 2 64) Add
    (raw_name (on 2 62) (codes "x")) (raw_truth (on 2 66) true)))) ∷ [])

minimise_a_sum_with_a_truth_value_is : checked Three Plain minimise_a_sum_with_a_truth_value ≡ Err (Mismatch (on 2 64))
minimise_a_sum_with_a_truth_value_is = refl

-- def main(a: int, b: int): int = choose (x: int) given a * b > 0 where x == a
abbrev pub product_with_inputs_in_given_for_run : List RawItemTree
product_with_inputs_in_given_for_run =
    (def (on 2 1) (codes "main") (param (on 2 10) (codes "a") Int ∷ param (on 2 18) (codes "b") Int ∷ []) (Int ∷ []) (raw_choose (on 2 33) (param (on 2 41)
    (codes "x") Int ∷ []) [] (given_that (on 2 49) (raw_binary (on 2 61) (Compare Gt) (raw_binary (on 2 57) Mul (raw_name (on 2 55) (codes "a")) (raw_name
    (on 2 59) (codes "b"))) (raw_lit (on 2 63) (pos 0)))) (raw_binary (on 2 73) (Compare Eq) (raw_name (on 2 71) (codes "x")) (raw_name (on 2 76) (codes
    "a"))) no_aim) ∷ [])

product_with_inputs_in_given_for_run_is : checked Three Late product_with_inputs_in_given_for_run ≡ Err (NotLinear (on 2 57))
product_with_inputs_in_given_for_run_is = refl

-- comfusy 003 def main(a: int): int = b
abbrev pub header_3_with_zeros_and_a_comment_before : List RawItemTree
header_3_with_zeros_and_a_comment_before =
    (def (on 2 13) (codes "main") (param (on 2 22) (codes "a") Int ∷ []) (Int ∷ []) (raw_name (on 2 37) (codes "b")) ∷ [])

header_3_with_zeros_and_a_comment_before_is : checked Three Plain header_3_with_zeros_and_a_comment_before ≡ Err (UnknownName (on 2 37))
header_3_with_zeros_and_a_comment_before_is = refl

-- const K = 3
-- const N = -K * 2 + mod(abs(1 - 9), K) - div(7, 2) + min(4, 2, 9) - max(1, 5, 3)
-- def f(x: int, p: bool): (int, bool) = (max(x, K, N), p ==> x <= K < 9)
-- def main(a: int, s: set): (int, bool) = choose (x: int, q: bool; t: set) given K divides a where q == (0 <= x < card(t)) && (t subset s) minimise (x, card(t))
abbrev pub all_new_forms : List RawItemTree
all_new_forms =
    (item_const (on 2 7) (codes "K") (raw_lit (on 2 11) (pos 3)) ∷ item_const (on 3 7) (codes "N") (raw_binary (on 3 66) Sub (raw_binary (on 3 51) Add
    (raw_binary (on 3 39) Sub (raw_binary (on 3 18) Add (raw_binary (on 3 14) Mul (raw_neg (on 3 11) (raw_name (on 3 12) (codes "K"))) (raw_lit (on 3 16)
    (pos 2))) (raw_mod (on 3 20) (raw_abs (on 3 24) (raw_binary (on 3 30) Sub (raw_lit (on 3 28) (pos 1)) (raw_lit (on 3 32) (pos 9)))) (number_name (on 3
    36) (codes "K")))) (raw_div (on 3 41) (raw_lit (on 3 45) (pos 7)) (number_lit (pos 2)))) (raw_min (on 3 53) (raws_of ((raw_lit (on 3 57) (pos 4)) ∷
    (raw_lit (on 3 60) (pos 2)) ∷ (raw_lit (on 3 63) (pos 9)) ∷ [])))) (raw_max (on 3 68) (raws_of ((raw_lit (on 3 72) (pos 1)) ∷ (raw_lit (on 3 75) (pos 5))
    ∷ (raw_lit (on 3 78) (pos 3)) ∷ [])))) ∷ def (on 4 1) (codes "f") (param (on 4 7) (codes "x") Int ∷ param (on 4 15) (codes "p") Truth ∷ []) (Int ∷ Truth
    ∷ []) (raw_tuple (on 4 39) (raws_of ((raw_max (on 4 40) (raws_of ((raw_name (on 4 44) (codes "x")) ∷ (raw_name (on 4 47) (codes "K")) ∷ (raw_name (on 4
    50) (codes "N")) ∷ []))) ∷ (raw_binary (on 4 56) Implies (raw_name (on 4 54) (codes "p")) (raw_chain (on 4 62) (Le ∷ Lt ∷ []) ((on 4 62) ∷ (on 4 67) ∷
    []) (raws_of ((raw_name (on 4 60) (codes "x")) ∷ (raw_name (on 4 65) (codes "K")) ∷ (raw_lit (on 4 69) (pos 9)) ∷ [])))) ∷ []))) ∷ def (on 5 1) (codes
    "main") (param (on 5 10) (codes "a") Int ∷ param (on 5 18) (codes "s") Set ∷ []) (Int ∷ Truth ∷ []) (raw_choose (on 5 41) (param (on 5 49) (codes "x")
    Int ∷ param (on 5 57) (codes "q") Truth ∷ []) (param (on 5 66) (codes "t") Set ∷ []) (given_that (on 5 74) (raw_divides (on 5 80) (number_name (on 5 80)
    (codes "K")) (raw_name (on 5 90) (codes "a")))) (raw_binary (on 5 122) And (raw_binary (on 5 100) (Compare Eq) (raw_name (on 5 98) (codes "q"))
    (raw_group (on 5 103) (raw_chain (on 5 106) (Le ∷ Lt ∷ []) ((on 5 106) ∷ (on 5 111) ∷ []) (raws_of ((raw_lit (on 5 104) (pos 0)) ∷ (raw_name (on 5 109)
    (codes "x")) ∷ (raw_card (on 5 113) (raw_name (on 5 118) (codes "t"))) ∷ []))))) (raw_group (on 5 125) (raw_binary (on 5 128) Subset (raw_name (on 5 126)
    (codes "t")) (raw_name (on 5 135) (codes "s"))))) (aim_at (on 5 138) Least (raw_tuple (on 5 147) (raws_of ((raw_name (on 5 148) (codes "x")) ∷ (raw_card
    (on 5 151) (raw_name (on 5 156) (codes "t"))) ∷ []))))) ∷ [])

all_new_forms_is :
    checked Three Plain all_new_forms ≡ Ok (program (typed (codes "f") (param (on 4 7) (codes "x") Int ∷ param (on 4 15) (codes "p") Truth ∷ []) (Int ∷ Truth
    ∷ []) (expr_tuple (exprs_of ((expr_max (exprs_of ((expr_var 0) ∷ (expr_lit (pos 3)) ∷ (expr_lit (negsuc 9)) ∷ []))) ∷ (expr_binary Implies (expr_var 1)
    (expr_chain (Le ∷ Lt ∷ []) (exprs_of ((expr_var 0) ∷ (expr_lit (pos 3)) ∷ (expr_lit (pos 9)) ∷ [])))) ∷ []))) ∷ typed (codes "main") (param (on 5 10)
    (codes "a") Int ∷ param (on 5 18) (codes "s") Set ∷ []) (Int ∷ Truth ∷ []) (expr_choose_where 1 (param (on 5 10) (codes "a") Int ∷ param (on 5 18) (codes
    "s") Set ∷ []) (Int ∷ Truth ∷ []) (Set ∷ []) (holds_where (expr_divides (pos 3) (expr_var 0))) (expr_binary And (expr_binary (Compare Eq) (expr_var 3)
    (expr_chain (Le ∷ Lt ∷ []) (exprs_of ((expr_lit (pos 0)) ∷ (expr_var 2) ∷ (expr_card (expr_var 4)) ∷ [])))) (expr_binary Subset (expr_var 4) (expr_var
    1))) (at_least (expr_tuple (exprs_of ((expr_var 2) ∷ (expr_card (expr_var 4)) ∷ []))))) ∷ []) 1)
all_new_forms_is = refl

-- def main(a: int): (int, bool) = (choose (x: int) where x <= a maximise x, true)
abbrev pub greatest_and_plain : List RawItemTree
greatest_and_plain =
    (def (on 2 1) (codes "main") (param (on 2 10) (codes "a") Int ∷ []) (Int ∷ Truth ∷ []) (raw_tuple (on 2 33) (raws_of ((raw_choose (on 2 34) (param (on 2
    42) (codes "x") Int ∷ []) [] no_given (raw_binary (on 2 58) (Compare Le) (raw_name (on 2 56) (codes "x")) (raw_name (on 2 61) (codes "a"))) (aim_at (on 2
    63) Greatest (raw_name (on 2 72) (codes "x")))) ∷ (raw_truth (on 2 75) true) ∷ []))) ∷ [])

greatest_and_plain_is :
    checked Three Plain greatest_and_plain ≡ Ok (program (typed (codes "main") (param (on 2 10) (codes "a") Int ∷ []) (Int ∷ Truth ∷ []) (expr_tuple
    (exprs_of ((expr_choose_where 1 (param (on 2 10) (codes "a") Int ∷ []) (Int ∷ []) [] holds_always (expr_binary (Compare Le) (expr_var 1) (expr_var 0))
    (at_greatest (expr_var 1))) ∷ (expr_truth true) ∷ []))) ∷ []) 0)
greatest_and_plain_is = refl

-- const K = 3
-- const Z = -2
-- def main(a: int): int = match a with { K * i - Z * j + K - Z - 1 then i + j ; - K then 0 ; 2 * K2 then K2 ; n then n }
abbrev pub a_pattern_with_constants : List RawItemTree
a_pattern_with_constants =
    (item_const (on 2 7) (codes "K") (raw_lit (on 2 11) (pos 3)) ∷ item_const (on 3 7) (codes "Z") (raw_neg (on 3 11) (raw_lit (on 3 12) (pos 2))) ∷ def (on
    4 1) (codes "main") (param (on 4 10) (codes "a") Int ∷ []) (Int ∷ []) (raw_match (on 4 25) (raw_name (on 4 31) (codes "a")) (raw_arms_of (raw_arm (part
    (on 4 40) false (Some (number_name (on 4 40) (codes "K"))) (on 4 44) (codes "i") ∷ part (on 4 48) true (Some (number_name (on 4 48) (codes "Z"))) (on 4
    52) (codes "j") ∷ part (on 4 56) false None (on 4 56) (codes "K") ∷ part (on 4 60) true None (on 4 60) (codes "Z") ∷ []) (negsuc 0) (raw_binary (on 4 73)
    Add (raw_name (on 4 71) (codes "i")) (raw_name (on 4 75) (codes "j"))) ∷ raw_arm (part (on 4 81) true None (on 4 81) (codes "K") ∷ []) (pos 0) (raw_lit
    (on 4 88) (pos 0)) ∷ raw_arm (part (on 4 92) false (Some (number_lit (pos 2))) (on 4 96) (codes "K2") ∷ []) (pos 0) (raw_name (on 4 104) (codes "K2")) ∷
    raw_arm (part (on 4 109) false None (on 4 109) (codes "n") ∷ []) (pos 0) (raw_name (on 4 116) (codes "n")) ∷ []))) ∷ [])

a_pattern_with_constants_is :
    checked Three Plain a_pattern_with_constants ≡ Ok (program (typed (codes "main") (param (on 4 10) (codes "a") Int ∷ []) (Int ∷ []) (expr_match 1 (param
    (on 4 10) (codes "a") Int ∷ param (on 4 25) (codes "match") Int ∷ []) (expr_var 0) (match_arms_of (match_arm 2 ((pos 3) ∷ (pos 2) ∷ []) (pos 4)
    (expr_binary Add (expr_var 2) (expr_var 3)) ∷ match_arm 0 [] (negsuc 2) (expr_lit (pos 0)) ∷ match_arm 3 ((pos 2) ∷ []) (pos 0) (expr_var 2) ∷ match_arm
    4 ((pos 1) ∷ []) (pos 0) (expr_var 2) ∷ []))) ∷ []) 0)
a_pattern_with_constants_is = refl

-- const K = 3
-- def main(a: int): (int, int, bool) = (div(a, K), mod(a, 2), K divides a)
abbrev pub constants_as_divisors : List RawItemTree
constants_as_divisors =
    (item_const (on 2 7) (codes "K") (raw_lit (on 2 11) (pos 3)) ∷ def (on 3 1) (codes "main") (param (on 3 10) (codes "a") Int ∷ []) (Int ∷ Int ∷ Truth ∷
    []) (raw_tuple (on 3 38) (raws_of ((raw_div (on 3 39) (raw_name (on 3 43) (codes "a")) (number_name (on 3 46) (codes "K"))) ∷ (raw_mod (on 3 50)
    (raw_name (on 3 54) (codes "a")) (number_lit (pos 2))) ∷ (raw_divides (on 3 61) (number_name (on 3 61) (codes "K")) (raw_name (on 3 71) (codes "a"))) ∷
    []))) ∷ [])

constants_as_divisors_is :
    checked Three Plain constants_as_divisors ≡ Ok (program (typed (codes "main") (param (on 3 10) (codes "a") Int ∷ []) (Int ∷ Int ∷ Truth ∷ []) (expr_tuple
    (exprs_of ((expr_div (expr_var 0) (pos 3)) ∷ (expr_mod (expr_var 0) (pos 2)) ∷ (expr_divides (pos 3) (expr_var 0)) ∷ []))) ∷ []) 0)
constants_as_divisors_is = refl

-- def main(a: int, b: int): int = choose (x: int) where a * x == b minimise b * x
abbrev pub a_late_choose : List RawItemTree
a_late_choose =
    (def (on 2 1) (codes "main") (param (on 2 10) (codes "a") Int ∷ param (on 2 18) (codes "b") Int ∷ []) (Int ∷ []) (raw_choose (on 2 33) (param (on 2 41)
    (codes "x") Int ∷ []) [] no_given (raw_binary (on 2 61) (Compare Eq) (raw_binary (on 2 57) Mul (raw_name (on 2 55) (codes "a")) (raw_name (on 2 59)
    (codes "x"))) (raw_name (on 2 64) (codes "b"))) (aim_at (on 2 66) Least (raw_binary (on 2 77) Mul (raw_name (on 2 75) (codes "b")) (raw_name (on 2 79)
    (codes "x"))))) ∷ [])

a_late_choose_is :
    checked Three Late a_late_choose ≡ Ok (program (typed (codes "main") (param (on 2 10) (codes "a") Int ∷ param (on 2 18) (codes "b") Int ∷ []) (Int ∷ [])
    (expr_choose_where 1 (param (on 2 10) (codes "a") Int ∷ param (on 2 18) (codes "b") Int ∷ []) (Int ∷ []) [] holds_always (expr_binary (Compare Eq)
    (expr_binary Mul (expr_var 0) (expr_var 2)) (expr_var 1)) (at_least (expr_binary Mul (expr_var 1) (expr_var 2)))) ∷ []) 0)
a_late_choose_is = refl

-- def main(a: int, b: int): int = choose (x: int) given a * b > 0 where a * x == b
abbrev pub a_given_is_never_late : List RawItemTree
a_given_is_never_late =
    (def (on 2 1) (codes "main") (param (on 2 10) (codes "a") Int ∷ param (on 2 18) (codes "b") Int ∷ []) (Int ∷ []) (raw_choose (on 2 33) (param (on 2 41)
    (codes "x") Int ∷ []) [] (given_that (on 2 49) (raw_binary (on 2 61) (Compare Gt) (raw_binary (on 2 57) Mul (raw_name (on 2 55) (codes "a")) (raw_name
    (on 2 59) (codes "b"))) (raw_lit (on 2 63) (pos 0)))) (raw_binary (on 2 77) (Compare Eq) (raw_binary (on 2 73) Mul (raw_name (on 2 71) (codes "a"))
    (raw_name (on 2 75) (codes "x"))) (raw_name (on 2 80) (codes "b"))) no_aim) ∷ [])

a_given_is_never_late_is : checked Three Late a_given_is_never_late ≡ Err (NotLinear (on 2 57))
a_given_is_never_late_is = refl

-- def main(a: int, b: int): int = choose (x: int) where x == b minimise a * x
abbrev pub an_aim_is_linear_too : List RawItemTree
an_aim_is_linear_too =
    (def (on 2 1) (codes "main") (param (on 2 10) (codes "a") Int ∷ param (on 2 18) (codes "b") Int ∷ []) (Int ∷ []) (raw_choose (on 2 33) (param (on 2 41)
    (codes "x") Int ∷ []) [] no_given (raw_binary (on 2 57) (Compare Eq) (raw_name (on 2 55) (codes "x")) (raw_name (on 2 60) (codes "b"))) (aim_at (on 2 62)
    Least (raw_binary (on 2 73) Mul (raw_name (on 2 71) (codes "a")) (raw_name (on 2 75) (codes "x"))))) ∷ [])

an_aim_is_linear_too_is : checked Three Plain an_aim_is_linear_too ≡ Err (NotLinear (on 2 73))
an_aim_is_linear_too_is = refl

-- def main(a: int): (int, int, int) = (choose (x: int) where x == a, match a with { 2 * i then choose (y: int) where y == i ; i then i ; 3 then 4 }, choose (z: int) where z == a)
abbrev pub numbers_of_chooses : List RawItemTree
numbers_of_chooses =
    (def (on 2 1) (codes "main") (param (on 2 10) (codes "a") Int ∷ []) (Int ∷ Int ∷ Int ∷ []) (raw_tuple (on 2 37) (raws_of ((raw_choose (on 2 38) (param
    (on 2 46) (codes "x") Int ∷ []) [] no_given (raw_binary (on 2 62) (Compare Eq) (raw_name (on 2 60) (codes "x")) (raw_name (on 2 65) (codes "a"))) no_aim)
    ∷ (raw_match (on 2 68) (raw_name (on 2 74) (codes "a")) (raw_arms_of (raw_arm (part (on 2 83) false (Some (number_lit (pos 2))) (on 2 87) (codes "i") ∷
    []) (pos 0) (raw_choose (on 2 94) (param (on 2 102) (codes "y") Int ∷ []) [] no_given (raw_binary (on 2 118) (Compare Eq) (raw_name (on 2 116) (codes
    "y")) (raw_name (on 2 121) (codes "i"))) no_aim) ∷ raw_arm (part (on 2 125) false None (on 2 125) (codes "i") ∷ []) (pos 0) (raw_name (on 2 132) (codes
    "i")) ∷ raw_arm [] (pos 3) (raw_lit (on 2 143) (pos 4)) ∷ []))) ∷ (raw_choose (on 2 148) (param (on 2 156) (codes "z") Int ∷ []) [] no_given (raw_binary
    (on 2 172) (Compare Eq) (raw_name (on 2 170) (codes "z")) (raw_name (on 2 175) (codes "a"))) no_aim) ∷ []))) ∷ [])

numbers_of_chooses_is :
    checked Three Plain numbers_of_chooses ≡ Ok (program (typed (codes "main") (param (on 2 10) (codes "a") Int ∷ []) (Int ∷ Int ∷ Int ∷ []) (expr_tuple
    (exprs_of ((expr_choose_where 1 (param (on 2 10) (codes "a") Int ∷ []) (Int ∷ []) [] holds_always (expr_binary (Compare Eq) (expr_var 1) (expr_var 0))
    at_any) ∷ (expr_match 2 (param (on 2 10) (codes "a") Int ∷ param (on 2 68) (codes "match") Int ∷ []) (expr_var 0) (match_arms_of (match_arm 3 ((pos 2) ∷
    []) (pos 0) (expr_choose_where 4 (param (on 2 10) (codes "a") Int ∷ param (on 2 68) (codes "match") Int ∷ param (on 2 87) (codes "i") Int ∷ []) (Int ∷
    []) [] holds_always (expr_binary (Compare Eq) (expr_var 3) (expr_var 2)) at_any) ∷ match_arm 5 ((pos 1) ∷ []) (pos 0) (expr_var 2) ∷ match_arm 0 [] (pos
    3) (expr_lit (pos 4)) ∷ []))) ∷ (expr_choose_where 6 (param (on 2 10) (codes "a") Int ∷ []) (Int ∷ []) [] holds_always (expr_binary (Compare Eq)
    (expr_var 1) (expr_var 0)) at_any) ∷ []))) ∷ []) 0)
numbers_of_chooses_is = refl

-- def main(s: set): int = div(s, k)
abbrev pub the_divisor_before_the_type : List RawItemTree
the_divisor_before_the_type =
    (def (on 2 1) (codes "main") (param (on 2 10) (codes "s") Set ∷ []) (Int ∷ []) (raw_div (on 2 25) (raw_name (on 2 29) (codes "s")) (number_name (on 2 32)
    (codes "k"))) ∷ [])

the_divisor_before_the_type_is : checked Three Plain the_divisor_before_the_type ≡ Err (UnknownName (on 2 32))
the_divisor_before_the_type_is = refl

-- def main(s: set): int = mod(t, k)
abbrev pub the_part_before_the_divisor : List RawItemTree
the_part_before_the_divisor =
    (def (on 2 1) (codes "main") (param (on 2 10) (codes "s") Set ∷ []) (Int ∷ []) (raw_mod (on 2 25) (raw_name (on 2 29) (codes "t")) (number_name (on 2 32)
    (codes "k"))) ∷ [])

the_part_before_the_divisor_is : checked Three Plain the_part_before_the_divisor ≡ Err (UnknownName (on 2 29))
the_part_before_the_divisor_is = refl

-- def main(s: set): bool = k divides t
abbrev pub the_divisor_before_the_part : List RawItemTree
the_divisor_before_the_part =
    (def (on 2 1) (codes "main") (param (on 2 10) (codes "s") Set ∷ []) (Truth ∷ []) (raw_divides (on 2 26) (number_name (on 2 26) (codes "k")) (raw_name (on
    2 36) (codes "t"))) ∷ [])

the_divisor_before_the_part_is : checked Three Plain the_divisor_before_the_part ≡ Err (UnknownName (on 2 26))
the_divisor_before_the_part_is = refl

-- def main(a: int): int = match a with { k * i + i then i ; j then j }
abbrev pub the_factor_before_the_names : List RawItemTree
the_factor_before_the_names =
    (def (on 2 1) (codes "main") (param (on 2 10) (codes "a") Int ∷ []) (Int ∷ []) (raw_match (on 2 25) (raw_name (on 2 31) (codes "a")) (raw_arms_of
    (raw_arm (part (on 2 40) false (Some (number_name (on 2 40) (codes "k"))) (on 2 44) (codes "i") ∷ part (on 2 48) false None (on 2 48) (codes "i") ∷ [])
    (pos 0) (raw_name (on 2 55) (codes "i")) ∷ raw_arm (part (on 2 59) false None (on 2 59) (codes "j") ∷ []) (pos 0) (raw_name (on 2 66) (codes "j")) ∷
    []))) ∷ [])

the_factor_before_the_names_is : checked Three Plain the_factor_before_the_names ≡ Err (UnknownName (on 2 40))
the_factor_before_the_names_is = refl

-- const M = 170141183460469231731687303715884105727
-- def main(a: int): int = match a with { M + i + M + i then i ; j then j }
abbrev pub the_names_before_the_sum : List RawItemTree
the_names_before_the_sum =
    (item_const (on 2 7) (codes "M") (raw_lit (on 2 11) (pos 170141183460469231731687303715884105727)) ∷ def (on 3 1) (codes "main") (param (on 3 10) (codes
    "a") Int ∷ []) (Int ∷ []) (raw_match (on 3 25) (raw_name (on 3 31) (codes "a")) (raw_arms_of (raw_arm (part (on 3 40) false None (on 3 40) (codes "M") ∷
    part (on 3 44) false None (on 3 44) (codes "i") ∷ part (on 3 48) false None (on 3 48) (codes "M") ∷ part (on 3 52) false None (on 3 52) (codes "i") ∷ [])
    (pos 0) (raw_name (on 3 59) (codes "i")) ∷ raw_arm (part (on 3 63) false None (on 3 63) (codes "j") ∷ []) (pos 0) (raw_name (on 3 70) (codes "j")) ∷
    []))) ∷ [])

the_names_before_the_sum_is : checked Three Plain the_names_before_the_sum ≡ Err (DuplicateName (on 3 52))
the_names_before_the_sum_is = refl

-- const M = 170141183460469231731687303715884105727
-- def main(a: int): int = match a with { M + i + M then b ; j then j }
abbrev pub the_sum_before_the_body : List RawItemTree
the_sum_before_the_body =
    (item_const (on 2 7) (codes "M") (raw_lit (on 2 11) (pos 170141183460469231731687303715884105727)) ∷ def (on 3 1) (codes "main") (param (on 3 10) (codes
    "a") Int ∷ []) (Int ∷ []) (raw_match (on 3 25) (raw_name (on 3 31) (codes "a")) (raw_arms_of (raw_arm (part (on 3 40) false None (on 3 40) (codes "M") ∷
    part (on 3 44) false None (on 3 44) (codes "i") ∷ part (on 3 48) false None (on 3 48) (codes "M") ∷ []) (pos 0) (raw_name (on 3 55) (codes "b")) ∷
    raw_arm (part (on 3 59) false None (on 3 59) (codes "j") ∷ []) (pos 0) (raw_name (on 3 66) (codes "j")) ∷ []))) ∷ [])

the_sum_before_the_body_is : checked Three Plain the_sum_before_the_body ≡ Err (ConstantPast (on 3 40))
the_sum_before_the_body_is = refl

-- def main(s: set): int = match s with { i then b ; j then j }
abbrev pub the_body_before_the_matched_type : List RawItemTree
the_body_before_the_matched_type =
    (def (on 2 1) (codes "main") (param (on 2 10) (codes "s") Set ∷ []) (Int ∷ []) (raw_match (on 2 25) (raw_name (on 2 31) (codes "s")) (raw_arms_of
    (raw_arm (part (on 2 40) false None (on 2 40) (codes "i") ∷ []) (pos 0) (raw_name (on 2 47) (codes "b")) ∷ raw_arm (part (on 2 51) false None (on 2 51)
    (codes "j") ∷ []) (pos 0) (raw_name (on 2 58) (codes "j")) ∷ []))) ∷ [])

the_body_before_the_matched_type_is : checked Three Plain the_body_before_the_matched_type ≡ Err (UnknownName (on 2 47))
the_body_before_the_matched_type_is = refl

-- def main(a: int): int = choose (x: int; x: int) given b where x == a
abbrev pub the_outputs_before_given : List RawItemTree
the_outputs_before_given =
    (def (on 2 1) (codes "main") (param (on 2 10) (codes "a") Int ∷ []) (Int ∷ []) (raw_choose (on 2 25) (param (on 2 33) (codes "x") Int ∷ []) (param (on 2
    41) (codes "x") Int ∷ []) (given_that (on 2 49) (raw_name (on 2 55) (codes "b"))) (raw_binary (on 2 65) (Compare Eq) (raw_name (on 2 63) (codes "x"))
    (raw_name (on 2 68) (codes "a"))) no_aim) ∷ [])

the_outputs_before_given_is : checked Three Plain the_outputs_before_given ≡ Err (DuplicateName (on 2 41))
the_outputs_before_given_is = refl

-- def main(a: int): int = choose (x: int) given a where c
abbrev pub given_before_the_relation : List RawItemTree
given_before_the_relation =
    (def (on 2 1) (codes "main") (param (on 2 10) (codes "a") Int ∷ []) (Int ∷ []) (raw_choose (on 2 25) (param (on 2 33) (codes "x") Int ∷ []) []
    (given_that (on 2 41) (raw_name (on 2 47) (codes "a"))) (raw_name (on 2 55) (codes "c")) no_aim) ∷ [])

given_before_the_relation_is : checked Three Plain given_before_the_relation ≡ Err (Mismatch (on 2 41))
given_before_the_relation_is = refl

-- def main(a: int): int = choose (x: int) given a * a == 1 where c
abbrev pub the_bend_of_given_before_the_relation : List RawItemTree
the_bend_of_given_before_the_relation =
    (def (on 2 1) (codes "main") (param (on 2 10) (codes "a") Int ∷ []) (Int ∷ []) (raw_choose (on 2 25) (param (on 2 33) (codes "x") Int ∷ []) []
    (given_that (on 2 41) (raw_binary (on 2 53) (Compare Eq) (raw_binary (on 2 49) Mul (raw_name (on 2 47) (codes "a")) (raw_name (on 2 51) (codes "a")))
    (raw_lit (on 2 56) (pos 1)))) (raw_name (on 2 64) (codes "c")) no_aim) ∷ [])

the_bend_of_given_before_the_relation_is : checked Three Plain the_bend_of_given_before_the_relation ≡ Err (NotLinear (on 2 49))
the_bend_of_given_before_the_relation_is = refl

-- def main(a: int): int = choose (x: int) where x * x minimise c
abbrev pub the_relation_before_the_aim : List RawItemTree
the_relation_before_the_aim =
    (def (on 2 1) (codes "main") (param (on 2 10) (codes "a") Int ∷ []) (Int ∷ []) (raw_choose (on 2 25) (param (on 2 33) (codes "x") Int ∷ []) [] no_given
    (raw_binary (on 2 49) Mul (raw_name (on 2 47) (codes "x")) (raw_name (on 2 51) (codes "x"))) (aim_at (on 2 53) Least (raw_name (on 2 62) (codes "c")))) ∷
    [])

the_relation_before_the_aim_is : checked Three Plain the_relation_before_the_aim ≡ Err (Mismatch (on 2 25))
the_relation_before_the_aim_is = refl

-- def main(a: int): int = choose (x: int) where x * x == 1 minimise c
abbrev pub the_bend_of_the_relation_before_the_aim : List RawItemTree
the_bend_of_the_relation_before_the_aim =
    (def (on 2 1) (codes "main") (param (on 2 10) (codes "a") Int ∷ []) (Int ∷ []) (raw_choose (on 2 25) (param (on 2 33) (codes "x") Int ∷ []) [] no_given
    (raw_binary (on 2 53) (Compare Eq) (raw_binary (on 2 49) Mul (raw_name (on 2 47) (codes "x")) (raw_name (on 2 51) (codes "x"))) (raw_lit (on 2 56) (pos
    1))) (aim_at (on 2 58) Least (raw_name (on 2 67) (codes "c")))) ∷ [])

the_bend_of_the_relation_before_the_aim_is : checked Three Plain the_bend_of_the_relation_before_the_aim ≡ Err (NotLinear (on 2 49))
the_bend_of_the_relation_before_the_aim_is = refl

-- def main(a: int): bool = choose (p: bool; x: int, y: int) where p && x < y minimise y
abbrev pub hidden_outputs_stand_behind_in_the_scope : List RawItemTree
hidden_outputs_stand_behind_in_the_scope =
    (def (on 2 1) (codes "main") (param (on 2 10) (codes "a") Int ∷ []) (Truth ∷ []) (raw_choose (on 2 26) (param (on 2 34) (codes "p") Truth ∷ []) (param
    (on 2 43) (codes "x") Int ∷ param (on 2 51) (codes "y") Int ∷ []) no_given (raw_binary (on 2 67) And (raw_name (on 2 65) (codes "p")) (raw_binary (on 2
    72) (Compare Lt) (raw_name (on 2 70) (codes "x")) (raw_name (on 2 74) (codes "y")))) (aim_at (on 2 76) Least (raw_name (on 2 85) (codes "y")))) ∷ [])

hidden_outputs_stand_behind_in_the_scope_is :
    checked Three Plain hidden_outputs_stand_behind_in_the_scope ≡ Ok (program (typed (codes "main") (param (on 2 10) (codes "a") Int ∷ []) (Truth ∷ [])
    (expr_choose_where 1 (param (on 2 10) (codes "a") Int ∷ []) (Truth ∷ []) (Int ∷ Int ∷ []) holds_always (expr_binary And (expr_var 1) (expr_binary
    (Compare Lt) (expr_var 2) (expr_var 3))) (at_least (expr_var 3))) ∷ []) 0)
hidden_outputs_stand_behind_in_the_scope_is = refl

-- const K = (1 < 2) + 1
-- def main(a: int): int = a
abbrev pub a_constant_value_is_typed_before_it_is_folded : List RawItemTree
a_constant_value_is_typed_before_it_is_folded =
    (item_const (on 2 7) (codes "K") (raw_binary (on 2 19) Add (raw_group (on 2 11) (raw_binary (on 2 14) (Compare Lt) (raw_lit (on 2 12) (pos 1)) (raw_lit
    (on 2 16) (pos 2)))) (raw_lit (on 2 21) (pos 1))) ∷ def (on 3 1) (codes "main") (param (on 3 10) (codes "a") Int ∷ []) (Int ∷ []) (raw_name (on 3 25)
    (codes "a")) ∷ [])

a_constant_value_is_typed_before_it_is_folded_is : checked Three Plain a_constant_value_is_typed_before_it_is_folded ≡ Err (Mismatch (on 2 19))
a_constant_value_is_typed_before_it_is_folded_is = refl

-- const K = card({1, f()})
-- def f(): int = 1
-- def main(a: int): int = a
abbrev pub not_constant_comes_parts_first : List RawItemTree
not_constant_comes_parts_first =
    (item_const (on 2 7) (codes "K") (raw_card (on 2 11) (raw_set_of (on 2 16) (raws_of ((raw_lit (on 2 17) (pos 1)) ∷ (raw_call (on 2 20) (codes "f")
    (raws_of [])) ∷ [])))) ∷ def (on 3 1) (codes "f") [] (Int ∷ []) (raw_lit (on 3 16) (pos 1)) ∷ def (on 4 1) (codes "main") (param (on 4 10) (codes "a")
    Int ∷ []) (Int ∷ []) (raw_name (on 4 25) (codes "a")) ∷ [])

not_constant_comes_parts_first_is : checked Three Plain not_constant_comes_parts_first ≡ Err (CallsLater (on 2 20))
not_constant_comes_parts_first_is = refl

-- const K = card({1})
-- def main(a: int): int = a
abbrev pub a_set_is_not_constant : List RawItemTree
a_set_is_not_constant =
    (item_const (on 2 7) (codes "K") (raw_card (on 2 11) (raw_set_of (on 2 16) (raws_of ((raw_lit (on 2 17) (pos 1)) ∷ [])))) ∷ def (on 3 1) (codes "main")
    (param (on 3 10) (codes "a") Int ∷ []) (Int ∷ []) (raw_name (on 3 25) (codes "a")) ∷ [])

a_set_is_not_constant_is : checked Three Plain a_set_is_not_constant ≡ Err (NotConstant (on 2 16))
a_set_is_not_constant_is = refl

-- const K = let x = 1 in 2
-- def main(a: int): int = a
abbrev pub a_let_is_not_constant : List RawItemTree
a_let_is_not_constant =
    (item_const (on 2 7) (codes "K") (raw_let (on 2 11) ((codes "x") ∷ []) ((on 2 15) ∷ []) (raw_lit (on 2 19) (pos 1)) (raw_lit (on 2 24) (pos 2))) ∷ def
    (on 3 1) (codes "main") (param (on 3 10) (codes "a") Int ∷ []) (Int ∷ []) (raw_name (on 3 25) (codes "a")) ∷ [])

a_let_is_not_constant_is : checked Three Plain a_let_is_not_constant ≡ Err (NotConstant (on 2 11))
a_let_is_not_constant_is = refl

-- const K = let x = 1 in x
-- def main(a: int): int = a
abbrev pub a_variable_of_a_let_is_not_constant : List RawItemTree
a_variable_of_a_let_is_not_constant =
    (item_const (on 2 7) (codes "K") (raw_let (on 2 11) ((codes "x") ∷ []) ((on 2 15) ∷ []) (raw_lit (on 2 19) (pos 1)) (raw_name (on 2 24) (codes "x"))) ∷
    def (on 3 1) (codes "main") (param (on 3 10) (codes "a") Int ∷ []) (Int ∷ []) (raw_name (on 3 25) (codes "a")) ∷ [])

a_variable_of_a_let_is_not_constant_is : checked Three Plain a_variable_of_a_let_is_not_constant ≡ Err (NotConstant (on 2 24))
a_variable_of_a_let_is_not_constant_is = refl

-- const K = choose (x: int) where true
-- def main(a: int): int = a
abbrev pub a_choose_is_not_constant : List RawItemTree
a_choose_is_not_constant =
    (item_const (on 2 7) (codes "K") (raw_choose (on 2 11) (param (on 2 19) (codes "x") Int ∷ []) [] no_given (raw_truth (on 2 33) true) no_aim) ∷ def (on 3
    1) (codes "main") (param (on 3 10) (codes "a") Int ∷ []) (Int ∷ []) (raw_name (on 3 25) (codes "a")) ∷ [])

a_choose_is_not_constant_is : checked Three Plain a_choose_is_not_constant ≡ Err (NotConstant (on 2 33))
a_choose_is_not_constant_is = refl

-- const K = match 1 with { i then 2 }
-- def main(a: int): int = a
abbrev pub a_match_is_not_constant : List RawItemTree
a_match_is_not_constant =
    (item_const (on 2 7) (codes "K") (raw_match (on 2 11) (raw_lit (on 2 17) (pos 1)) (raw_arms_of (raw_arm (part (on 2 26) false None (on 2 26) (codes "i")
    ∷ []) (pos 0) (raw_lit (on 2 33) (pos 2)) ∷ []))) ∷ def (on 3 1) (codes "main") (param (on 3 10) (codes "a") Int ∷ []) (Int ∷ []) (raw_name (on 3 25)
    (codes "a")) ∷ [])

a_match_is_not_constant_is : checked Three Plain a_match_is_not_constant ≡ Err (NotConstant (on 2 11))
a_match_is_not_constant_is = refl

-- const KK = KK
-- def main(a: int): int = a
abbrev pub a_constant_of_itself : List RawItemTree
a_constant_of_itself =
    (item_const (on 2 7) (codes "KK") (raw_name (on 2 12) (codes "KK")) ∷ def (on 3 1) (codes "main") (param (on 3 10) (codes "a") Int ∷ []) (Int ∷ [])
    (raw_name (on 3 25) (codes "a")) ∷ [])

a_constant_of_itself_is : checked Three Plain a_constant_of_itself ≡ Err (UnknownName (on 2 12))
a_constant_of_itself_is = refl

-- def f(x: int): int = x
-- const f = 2
-- def main(a: int): int = f(f)
abbrev pub a_constant_may_have_the_name_of_a_function : List RawItemTree
a_constant_may_have_the_name_of_a_function =
    (def (on 2 1) (codes "f") (param (on 2 7) (codes "x") Int ∷ []) (Int ∷ []) (raw_name (on 2 22) (codes "x")) ∷ item_const (on 3 7) (codes "f") (raw_lit
    (on 3 11) (pos 2)) ∷ def (on 4 1) (codes "main") (param (on 4 10) (codes "a") Int ∷ []) (Int ∷ []) (raw_call (on 4 25) (codes "f") (raws_of ((raw_name
    (on 4 27) (codes "f")) ∷ []))) ∷ [])

a_constant_may_have_the_name_of_a_function_is :
    checked Three Plain a_constant_may_have_the_name_of_a_function ≡ Ok (program (typed (codes "f") (param (on 2 7) (codes "x") Int ∷ []) (Int ∷ [])
    (expr_var 0) ∷ typed (codes "main") (param (on 4 10) (codes "a") Int ∷ []) (Int ∷ []) (expr_call 0 (exprs_of ((expr_lit (pos 2)) ∷ []))) ∷ []) 1)
a_constant_may_have_the_name_of_a_function_is = refl

-- const M = 170141183460469231731687303715884105727
-- const K = M * 2 - M * 2
-- def main(a: int): int = a
abbrev pub a_product_past_the_limit : List RawItemTree
a_product_past_the_limit =
    (item_const (on 2 7) (codes "M") (raw_lit (on 2 11) (pos 170141183460469231731687303715884105727)) ∷ item_const (on 3 7) (codes "K") (raw_binary (on 3
    17) Sub (raw_binary (on 3 13) Mul (raw_name (on 3 11) (codes "M")) (raw_lit (on 3 15) (pos 2))) (raw_binary (on 3 21) Mul (raw_name (on 3 19) (codes
    "M")) (raw_lit (on 3 23) (pos 2)))) ∷ def (on 4 1) (codes "main") (param (on 4 10) (codes "a") Int ∷ []) (Int ∷ []) (raw_name (on 4 25) (codes "a")) ∷
    [])

a_product_past_the_limit_is : checked Three Plain a_product_past_the_limit ≡ Err (ConstantPast (on 3 13))
a_product_past_the_limit_is = refl

-- const Z = 0
-- def main(a: int): int = choose (x: int) where Z * x == 0
abbrev pub a_constant_factor_that_is_zero : List RawItemTree
a_constant_factor_that_is_zero =
    (item_const (on 2 7) (codes "Z") (raw_lit (on 2 11) (pos 0)) ∷ def (on 3 1) (codes "main") (param (on 3 10) (codes "a") Int ∷ []) (Int ∷ []) (raw_choose
    (on 3 25) (param (on 3 33) (codes "x") Int ∷ []) [] no_given (raw_binary (on 3 53) (Compare Eq) (raw_binary (on 3 49) Mul (raw_name (on 3 47) (codes
    "Z")) (raw_name (on 3 51) (codes "x"))) (raw_lit (on 3 56) (pos 0))) no_aim) ∷ [])

a_constant_factor_that_is_zero_is :
    checked Three Plain a_constant_factor_that_is_zero ≡ Ok (program (typed (codes "main") (param (on 3 10) (codes "a") Int ∷ []) (Int ∷ [])
    (expr_choose_where 1 (param (on 3 10) (codes "a") Int ∷ []) (Int ∷ []) [] holds_always (expr_binary (Compare Eq) (expr_binary Mul (expr_lit (pos 0))
    (expr_var 1)) (expr_lit (pos 0))) at_any) ∷ []) 0)
a_constant_factor_that_is_zero_is = refl

-- def times(k: int, x: int): int = k * x
-- def main(a: int): int = choose (x: int) where times(3, x) == a
abbrev pub a_call_with_a_constant_factor : List RawItemTree
a_call_with_a_constant_factor =
    (def (on 2 1) (codes "times") (param (on 2 11) (codes "k") Int ∷ param (on 2 19) (codes "x") Int ∷ []) (Int ∷ []) (raw_binary (on 2 36) Mul (raw_name (on
    2 34) (codes "k")) (raw_name (on 2 38) (codes "x"))) ∷ def (on 3 1) (codes "main") (param (on 3 10) (codes "a") Int ∷ []) (Int ∷ []) (raw_choose (on 3
    25) (param (on 3 33) (codes "x") Int ∷ []) [] no_given (raw_binary (on 3 59) (Compare Eq) (raw_call (on 3 47) (codes "times") (raws_of ((raw_lit (on 3
    53) (pos 3)) ∷ (raw_name (on 3 56) (codes "x")) ∷ []))) (raw_name (on 3 62) (codes "a"))) no_aim) ∷ [])

a_call_with_a_constant_factor_is :
    checked Three Plain a_call_with_a_constant_factor ≡ Ok (program (typed (codes "times") (param (on 2 11) (codes "k") Int ∷ param (on 2 19) (codes "x") Int
    ∷ []) (Int ∷ []) (expr_binary Mul (expr_var 0) (expr_var 1)) ∷ typed (codes "main") (param (on 3 10) (codes "a") Int ∷ []) (Int ∷ []) (expr_choose_where
    1 (param (on 3 10) (codes "a") Int ∷ []) (Int ∷ []) [] holds_always (expr_binary (Compare Eq) (expr_call 0 (exprs_of ((expr_lit (pos 3)) ∷ (expr_var 1) ∷
    []))) (expr_var 0)) at_any) ∷ []) 1)
a_call_with_a_constant_factor_is = refl

-- def main(a: int): int = choose (x: int) where (if x > 0 then 2 else 3) * x == a
abbrev pub an_if_as_a_factor : List RawItemTree
an_if_as_a_factor =
    (def (on 2 1) (codes "main") (param (on 2 10) (codes "a") Int ∷ []) (Int ∷ []) (raw_choose (on 2 25) (param (on 2 33) (codes "x") Int ∷ []) [] no_given
    (raw_binary (on 2 76) (Compare Eq) (raw_binary (on 2 72) Mul (raw_group (on 2 47) (raw_if (on 2 48) (raw_binary (on 2 53) (Compare Gt) (raw_name (on 2
    51) (codes "x")) (raw_lit (on 2 55) (pos 0))) (raw_lit (on 2 62) (pos 2)) (raw_lit (on 2 69) (pos 3)))) (raw_name (on 2 74) (codes "x"))) (raw_name (on 2
    79) (codes "a"))) no_aim) ∷ [])

an_if_as_a_factor_is :
    checked Three Plain an_if_as_a_factor ≡ Ok (program (typed (codes "main") (param (on 2 10) (codes "a") Int ∷ []) (Int ∷ []) (expr_choose_where 1 (param
    (on 2 10) (codes "a") Int ∷ []) (Int ∷ []) [] holds_always (expr_binary (Compare Eq) (expr_binary Mul (expr_if (expr_binary (Compare Gt) (expr_var 1)
    (expr_lit (pos 0))) (expr_lit (pos 2)) (expr_lit (pos 3))) (expr_var 1)) (expr_var 0)) at_any) ∷ []) 0)
an_if_as_a_factor_is = refl

-- def main(a: int): int = choose (x: int) where let k = 3 in k * x == a
abbrev pub a_let_as_a_factor : List RawItemTree
a_let_as_a_factor =
    (def (on 2 1) (codes "main") (param (on 2 10) (codes "a") Int ∷ []) (Int ∷ []) (raw_choose (on 2 25) (param (on 2 33) (codes "x") Int ∷ []) [] no_given
    (raw_let (on 2 47) ((codes "k") ∷ []) ((on 2 51) ∷ []) (raw_lit (on 2 55) (pos 3)) (raw_binary (on 2 66) (Compare Eq) (raw_binary (on 2 62) Mul (raw_name
    (on 2 60) (codes "k")) (raw_name (on 2 64) (codes "x"))) (raw_name (on 2 69) (codes "a")))) no_aim) ∷ [])

a_let_as_a_factor_is :
    checked Three Plain a_let_as_a_factor ≡ Ok (program (typed (codes "main") (param (on 2 10) (codes "a") Int ∷ []) (Int ∷ []) (expr_choose_where 1 (param
    (on 2 10) (codes "a") Int ∷ []) (Int ∷ []) [] holds_always (expr_let 1 (expr_lit (pos 3)) (expr_binary (Compare Eq) (expr_binary Mul (expr_var 2)
    (expr_var 1)) (expr_var 0))) at_any) ∷ []) 0)
a_let_as_a_factor_is = refl

-- def main(a: int): int = choose (x: int) where let (k, y) = (3, x) in k * y == a
abbrev pub a_tuple_of_a_let_as_a_factor : List RawItemTree
a_tuple_of_a_let_as_a_factor =
    (def (on 2 1) (codes "main") (param (on 2 10) (codes "a") Int ∷ []) (Int ∷ []) (raw_choose (on 2 25) (param (on 2 33) (codes "x") Int ∷ []) [] no_given
    (raw_let (on 2 47) ((codes "k") ∷ (codes "y") ∷ []) ((on 2 52) ∷ (on 2 55) ∷ []) (raw_tuple (on 2 60) (raws_of ((raw_lit (on 2 61) (pos 3)) ∷ (raw_name
    (on 2 64) (codes "x")) ∷ []))) (raw_binary (on 2 76) (Compare Eq) (raw_binary (on 2 72) Mul (raw_name (on 2 70) (codes "k")) (raw_name (on 2 74) (codes
    "y"))) (raw_name (on 2 79) (codes "a")))) no_aim) ∷ [])

a_tuple_of_a_let_as_a_factor_is :
    checked Three Plain a_tuple_of_a_let_as_a_factor ≡ Ok (program (typed (codes "main") (param (on 2 10) (codes "a") Int ∷ []) (Int ∷ []) (expr_choose_where
    1 (param (on 2 10) (codes "a") Int ∷ []) (Int ∷ []) [] holds_always (expr_let 2 (expr_tuple (exprs_of ((expr_lit (pos 3)) ∷ (expr_var 1) ∷ [])))
    (expr_binary (Compare Eq) (expr_binary Mul (expr_var 2) (expr_var 3)) (expr_var 0))) at_any) ∷ []) 0)
a_tuple_of_a_let_as_a_factor_is = refl

-- def main(a: int): int = choose (x: int) where let (k, y) = (3, x) in y * y == a
abbrev pub the_other_part_of_a_tuple_as_a_factor : List RawItemTree
the_other_part_of_a_tuple_as_a_factor =
    (def (on 2 1) (codes "main") (param (on 2 10) (codes "a") Int ∷ []) (Int ∷ []) (raw_choose (on 2 25) (param (on 2 33) (codes "x") Int ∷ []) [] no_given
    (raw_let (on 2 47) ((codes "k") ∷ (codes "y") ∷ []) ((on 2 52) ∷ (on 2 55) ∷ []) (raw_tuple (on 2 60) (raws_of ((raw_lit (on 2 61) (pos 3)) ∷ (raw_name
    (on 2 64) (codes "x")) ∷ []))) (raw_binary (on 2 76) (Compare Eq) (raw_binary (on 2 72) Mul (raw_name (on 2 70) (codes "y")) (raw_name (on 2 74) (codes
    "y"))) (raw_name (on 2 79) (codes "a")))) no_aim) ∷ [])

the_other_part_of_a_tuple_as_a_factor_is : checked Three Plain the_other_part_of_a_tuple_as_a_factor ≡ Err (NotLinear (on 2 72))
the_other_part_of_a_tuple_as_a_factor_is = refl

-- def main(a: int): int = choose (x: int) where div(6, 2) * x == a
abbrev pub a_quotient_is_no_factor : List RawItemTree
a_quotient_is_no_factor =
    (def (on 2 1) (codes "main") (param (on 2 10) (codes "a") Int ∷ []) (Int ∷ []) (raw_choose (on 2 25) (param (on 2 33) (codes "x") Int ∷ []) [] no_given
    (raw_binary (on 2 61) (Compare Eq) (raw_binary (on 2 57) Mul (raw_div (on 2 47) (raw_lit (on 2 51) (pos 6)) (number_lit (pos 2))) (raw_name (on 2 59)
    (codes "x"))) (raw_name (on 2 64) (codes "a"))) no_aim) ∷ [])

a_quotient_is_no_factor_is : checked Three Plain a_quotient_is_no_factor ≡ Err (NotLinear (on 2 57))
a_quotient_is_no_factor_is = refl

-- def main(a: int): int = choose (x: int) where div(6, 2) * a == x
abbrev pub a_quotient_times_an_input : List RawItemTree
a_quotient_times_an_input =
    (def (on 2 1) (codes "main") (param (on 2 10) (codes "a") Int ∷ []) (Int ∷ []) (raw_choose (on 2 25) (param (on 2 33) (codes "x") Int ∷ []) [] no_given
    (raw_binary (on 2 61) (Compare Eq) (raw_binary (on 2 57) Mul (raw_div (on 2 47) (raw_lit (on 2 51) (pos 6)) (number_lit (pos 2))) (raw_name (on 2 59)
    (codes "a"))) (raw_name (on 2 64) (codes "x"))) no_aim) ∷ [])

a_quotient_times_an_input_is : checked Three Plain a_quotient_times_an_input ≡ Err (NotLinear (on 2 57))
a_quotient_times_an_input_is = refl

-- def main(a: int): int = choose (x: int) where x == (choose (y: int) where y * y == a)
abbrev pub an_inner_choose_is_checked_first : List RawItemTree
an_inner_choose_is_checked_first =
    (def (on 2 1) (codes "main") (param (on 2 10) (codes "a") Int ∷ []) (Int ∷ []) (raw_choose (on 2 25) (param (on 2 33) (codes "x") Int ∷ []) [] no_given
    (raw_binary (on 2 49) (Compare Eq) (raw_name (on 2 47) (codes "x")) (raw_group (on 2 52) (raw_choose (on 2 53) (param (on 2 61) (codes "y") Int ∷ []) []
    no_given (raw_binary (on 2 81) (Compare Eq) (raw_binary (on 2 77) Mul (raw_name (on 2 75) (codes "y")) (raw_name (on 2 79) (codes "y"))) (raw_name (on 2
    84) (codes "a"))) no_aim))) no_aim) ∷ [])

an_inner_choose_is_checked_first_is : checked Three Plain an_inner_choose_is_checked_first ≡ Err (NotLinear (on 2 77))
an_inner_choose_is_checked_first_is = refl

-- def times(x: int, y: int): int = x * y
-- def f(x: int, y: int): int = times(y, 2) + times(x, x)
-- def main(a: int, b: int): int = choose (x: int) where f(a, x) == b
abbrev pub a_call_of_a_call_with_inputs : List RawItemTree
a_call_of_a_call_with_inputs =
    (def (on 2 1) (codes "times") (param (on 2 11) (codes "x") Int ∷ param (on 2 19) (codes "y") Int ∷ []) (Int ∷ []) (raw_binary (on 2 36) Mul (raw_name (on
    2 34) (codes "x")) (raw_name (on 2 38) (codes "y"))) ∷ def (on 3 1) (codes "f") (param (on 3 7) (codes "x") Int ∷ param (on 3 15) (codes "y") Int ∷ [])
    (Int ∷ []) (raw_binary (on 3 42) Add (raw_call (on 3 30) (codes "times") (raws_of ((raw_name (on 3 36) (codes "y")) ∷ (raw_lit (on 3 39) (pos 2)) ∷ [])))
    (raw_call (on 3 44) (codes "times") (raws_of ((raw_name (on 3 50) (codes "x")) ∷ (raw_name (on 3 53) (codes "x")) ∷ [])))) ∷ def (on 4 1) (codes "main")
    (param (on 4 10) (codes "a") Int ∷ param (on 4 18) (codes "b") Int ∷ []) (Int ∷ []) (raw_choose (on 4 33) (param (on 4 41) (codes "x") Int ∷ []) []
    no_given (raw_binary (on 4 63) (Compare Eq) (raw_call (on 4 55) (codes "f") (raws_of ((raw_name (on 4 57) (codes "a")) ∷ (raw_name (on 4 60) (codes "x"))
    ∷ []))) (raw_name (on 4 66) (codes "b"))) no_aim) ∷ [])

a_call_of_a_call_with_inputs_is : checked Three Plain a_call_of_a_call_with_inputs ≡ Err (NotLinear (on 4 55))
a_call_of_a_call_with_inputs_is = refl

-- def main(a: int): int = choose (x: int) where let x = 2 in x * x == a
abbrev pub a_shadowed_output_is_known : List RawItemTree
a_shadowed_output_is_known =
    (def (on 2 1) (codes "main") (param (on 2 10) (codes "a") Int ∷ []) (Int ∷ []) (raw_choose (on 2 25) (param (on 2 33) (codes "x") Int ∷ []) [] no_given
    (raw_let (on 2 47) ((codes "x") ∷ []) ((on 2 51) ∷ []) (raw_lit (on 2 55) (pos 2)) (raw_binary (on 2 66) (Compare Eq) (raw_binary (on 2 62) Mul (raw_name
    (on 2 60) (codes "x")) (raw_name (on 2 64) (codes "x"))) (raw_name (on 2 69) (codes "a")))) no_aim) ∷ [])

a_shadowed_output_is_known_is :
    checked Three Plain a_shadowed_output_is_known ≡ Ok (program (typed (codes "main") (param (on 2 10) (codes "a") Int ∷ []) (Int ∷ []) (expr_choose_where 1
    (param (on 2 10) (codes "a") Int ∷ []) (Int ∷ []) [] holds_always (expr_let 1 (expr_lit (pos 2)) (expr_binary (Compare Eq) (expr_binary Mul (expr_var 2)
    (expr_var 2)) (expr_var 0))) at_any) ∷ []) 0)
a_shadowed_output_is_known_is = refl

-- def main(a: int): int = choose (x: int) where min(a, 2) * x == a
abbrev pub min_of_known_is_known : List RawItemTree
min_of_known_is_known =
    (def (on 2 1) (codes "main") (param (on 2 10) (codes "a") Int ∷ []) (Int ∷ []) (raw_choose (on 2 25) (param (on 2 33) (codes "x") Int ∷ []) [] no_given
    (raw_binary (on 2 61) (Compare Eq) (raw_binary (on 2 57) Mul (raw_min (on 2 47) (raws_of ((raw_name (on 2 51) (codes "a")) ∷ (raw_lit (on 2 54) (pos 2))
    ∷ []))) (raw_name (on 2 59) (codes "x"))) (raw_name (on 2 64) (codes "a"))) no_aim) ∷ [])

min_of_known_is_known_is : checked Three Plain min_of_known_is_known ≡ Err (NotLinear (on 2 57))
min_of_known_is_known_is = refl

-- def main(s: set): int = div(t, k)
abbrev pub the_part_of_div_before_the_divisor : List RawItemTree
the_part_of_div_before_the_divisor =
    (def (on 2 1) (codes "main") (param (on 2 10) (codes "s") Set ∷ []) (Int ∷ []) (raw_div (on 2 25) (raw_name (on 2 29) (codes "t")) (number_name (on 2 32)
    (codes "k"))) ∷ [])

the_part_of_div_before_the_divisor_is : checked Three Plain the_part_of_div_before_the_divisor ≡ Err (UnknownName (on 2 29))
the_part_of_div_before_the_divisor_is = refl

-- def main(s: set, n: int): int = choose (x: int) where card(s) * x == n
abbrev pub card_is_unknown : List RawItemTree
card_is_unknown =
    (def (on 2 1) (codes "main") (param (on 2 10) (codes "s") Set ∷ param (on 2 18) (codes "n") Int ∷ []) (Int ∷ []) (raw_choose (on 2 33) (param (on 2 41)
    (codes "x") Int ∷ []) [] no_given (raw_binary (on 2 67) (Compare Eq) (raw_binary (on 2 63) Mul (raw_card (on 2 55) (raw_name (on 2 60) (codes "s")))
    (raw_name (on 2 65) (codes "x"))) (raw_name (on 2 70) (codes "n"))) no_aim) ∷ [])

card_is_unknown_is : checked Three Plain card_is_unknown ≡ Err (NotLinear (on 2 63))
card_is_unknown_is = refl

-- def main(n: int): int = choose (x: int) where mod(n, 2) * x == n
abbrev pub mod_is_unknown : List RawItemTree
mod_is_unknown =
    (def (on 2 1) (codes "main") (param (on 2 10) (codes "n") Int ∷ []) (Int ∷ []) (raw_choose (on 2 25) (param (on 2 33) (codes "x") Int ∷ []) [] no_given
    (raw_binary (on 2 61) (Compare Eq) (raw_binary (on 2 57) Mul (raw_mod (on 2 47) (raw_name (on 2 51) (codes "n")) (number_lit (pos 2))) (raw_name (on 2
    59) (codes "x"))) (raw_name (on 2 64) (codes "n"))) no_aim) ∷ [])

mod_is_unknown_is : checked Three Plain mod_is_unknown ≡ Err (NotLinear (on 2 57))
mod_is_unknown_is = refl

-- def main(a: int): int = choose (x: int) where max(1, 2) * x + min(3, 4) * x + (-2) * x + abs(3) * x == a
abbrev pub forms_of_constants_are_constant : List RawItemTree
forms_of_constants_are_constant =
    (def (on 2 1) (codes "main") (param (on 2 10) (codes "a") Int ∷ []) (Int ∷ []) (raw_choose (on 2 25) (param (on 2 33) (codes "x") Int ∷ []) [] no_given
    (raw_binary (on 2 101) (Compare Eq) (raw_binary (on 2 88) Add (raw_binary (on 2 77) Add (raw_binary (on 2 61) Add (raw_binary (on 2 57) Mul (raw_max (on
    2 47) (raws_of ((raw_lit (on 2 51) (pos 1)) ∷ (raw_lit (on 2 54) (pos 2)) ∷ []))) (raw_name (on 2 59) (codes "x"))) (raw_binary (on 2 73) Mul (raw_min
    (on 2 63) (raws_of ((raw_lit (on 2 67) (pos 3)) ∷ (raw_lit (on 2 70) (pos 4)) ∷ []))) (raw_name (on 2 75) (codes "x")))) (raw_binary (on 2 84) Mul
    (raw_group (on 2 79) (raw_neg (on 2 80) (raw_lit (on 2 81) (pos 2)))) (raw_name (on 2 86) (codes "x")))) (raw_binary (on 2 97) Mul (raw_abs (on 2 90)
    (raw_lit (on 2 94) (pos 3))) (raw_name (on 2 99) (codes "x")))) (raw_name (on 2 104) (codes "a"))) no_aim) ∷ [])

forms_of_constants_are_constant_is :
    checked Three Plain forms_of_constants_are_constant ≡ Ok (program (typed (codes "main") (param (on 2 10) (codes "a") Int ∷ []) (Int ∷ [])
    (expr_choose_where 1 (param (on 2 10) (codes "a") Int ∷ []) (Int ∷ []) [] holds_always (expr_binary (Compare Eq) (expr_binary Add (expr_binary Add
    (expr_binary Add (expr_binary Mul (expr_max (exprs_of ((expr_lit (pos 1)) ∷ (expr_lit (pos 2)) ∷ []))) (expr_var 1)) (expr_binary Mul (expr_min (exprs_of
    ((expr_lit (pos 3)) ∷ (expr_lit (pos 4)) ∷ []))) (expr_var 1))) (expr_binary Mul (expr_neg (expr_lit (pos 2))) (expr_var 1))) (expr_binary Mul (expr_abs
    (expr_lit (pos 3))) (expr_var 1))) (expr_var 0)) at_any) ∷ []) 0)
forms_of_constants_are_constant_is = refl

-- def main(a: int): int = choose (x: int) where max(a, 2) * x == a
abbrev pub max_of_known_is_known : List RawItemTree
max_of_known_is_known =
    (def (on 2 1) (codes "main") (param (on 2 10) (codes "a") Int ∷ []) (Int ∷ []) (raw_choose (on 2 25) (param (on 2 33) (codes "x") Int ∷ []) [] no_given
    (raw_binary (on 2 61) (Compare Eq) (raw_binary (on 2 57) Mul (raw_max (on 2 47) (raws_of ((raw_name (on 2 51) (codes "a")) ∷ (raw_lit (on 2 54) (pos 2))
    ∷ []))) (raw_name (on 2 59) (codes "x"))) (raw_name (on 2 64) (codes "a"))) no_aim) ∷ [])

max_of_known_is_known_is : checked Three Plain max_of_known_is_known ≡ Err (NotLinear (on 2 57))
max_of_known_is_known_is = refl

-- def main(a: int): int = choose (x: int) where x * a == 1
abbrev pub an_input_on_the_right : List RawItemTree
an_input_on_the_right =
    (def (on 2 1) (codes "main") (param (on 2 10) (codes "a") Int ∷ []) (Int ∷ []) (raw_choose (on 2 25) (param (on 2 33) (codes "x") Int ∷ []) [] no_given
    (raw_binary (on 2 53) (Compare Eq) (raw_binary (on 2 49) Mul (raw_name (on 2 47) (codes "x")) (raw_name (on 2 51) (codes "a"))) (raw_lit (on 2 56) (pos
    1))) no_aim) ∷ [])

an_input_on_the_right_is : checked Three Plain an_input_on_the_right ≡ Err (NotLinear (on 2 49))
an_input_on_the_right_is = refl

-- def f(): int = 1
-- const K = card({1, f()})
-- def main(a: int): int = a
abbrev pub a_part_of_a_set_is_valued_first : List RawItemTree
a_part_of_a_set_is_valued_first =
    (def (on 2 1) (codes "f") [] (Int ∷ []) (raw_lit (on 2 16) (pos 1)) ∷ item_const (on 3 7) (codes "K") (raw_card (on 3 11) (raw_set_of (on 3 16) (raws_of
    ((raw_lit (on 3 17) (pos 1)) ∷ (raw_call (on 3 20) (codes "f") (raws_of [])) ∷ [])))) ∷ def (on 4 1) (codes "main") (param (on 4 10) (codes "a") Int ∷
    []) (Int ∷ []) (raw_name (on 4 25) (codes "a")) ∷ [])

a_part_of_a_set_is_valued_first_is : checked Three Plain a_part_of_a_set_is_valued_first ≡ Err (NotConstant (on 3 20))
a_part_of_a_set_is_valued_first_is = refl

-- def f(): int = 1
-- const K = let (x, y) = (2, f()) in 3
-- def main(a: int): int = a
abbrev pub a_part_of_a_tuple_is_valued_first : List RawItemTree
a_part_of_a_tuple_is_valued_first =
    (def (on 2 1) (codes "f") [] (Int ∷ []) (raw_lit (on 2 16) (pos 1)) ∷ item_const (on 3 7) (codes "K") (raw_let (on 3 11) ((codes "x") ∷ (codes "y") ∷ [])
    ((on 3 16) ∷ (on 3 19) ∷ []) (raw_tuple (on 3 24) (raws_of ((raw_lit (on 3 25) (pos 2)) ∷ (raw_call (on 3 28) (codes "f") (raws_of [])) ∷ []))) (raw_lit
    (on 3 36) (pos 3))) ∷ def (on 4 1) (codes "main") (param (on 4 10) (codes "a") Int ∷ []) (Int ∷ []) (raw_name (on 4 25) (codes "a")) ∷ [])

a_part_of_a_tuple_is_valued_first_is : checked Three Plain a_part_of_a_tuple_is_valued_first ≡ Err (NotConstant (on 3 28))
a_part_of_a_tuple_is_valued_first_is = refl

-- def main(s: set): int = match s with { i then i }
abbrev pub match_of_a_set : List RawItemTree
match_of_a_set =
    (def (on 2 1) (codes "main") (param (on 2 10) (codes "s") Set ∷ []) (Int ∷ []) (raw_match (on 2 25) (raw_name (on 2 31) (codes "s")) (raw_arms_of
    (raw_arm (part (on 2 40) false None (on 2 40) (codes "i") ∷ []) (pos 0) (raw_name (on 2 47) (codes "i")) ∷ []))) ∷ [])

match_of_a_set_is : checked Three Plain match_of_a_set ≡ Err (Mismatch (on 2 25))
match_of_a_set_is = refl

-- def maxy(x: int): int = x
-- def main(a: int): int = maxx(a)
abbrev pub a_function_before_the_operations : List RawItemTree
a_function_before_the_operations =
    (def (on 2 1) (codes "maxy") (param (on 2 10) (codes "x") Int ∷ []) (Int ∷ []) (raw_name (on 2 25) (codes "x")) ∷ def (on 3 1) (codes "main") (param (on
    3 10) (codes "a") Int ∷ []) (Int ∷ []) (raw_call (on 3 25) (codes "maxx") (raws_of ((raw_name (on 3 30) (codes "a")) ∷ []))) ∷ [])

a_function_before_the_operations_is : checked Three Plain a_function_before_the_operations ≡ Err (UnknownName (on 3 25))
a_function_before_the_operations_is = refl

-- def maxa(x: int): int = x
-- def maxb(x: int): int = x
-- def main(a: int): int = maxx(a)
abbrev pub the_last_function_first : List RawItemTree
the_last_function_first =
    (def (on 2 1) (codes "maxa") (param (on 2 10) (codes "x") Int ∷ []) (Int ∷ []) (raw_name (on 2 25) (codes "x")) ∷ def (on 3 1) (codes "maxb") (param (on
    3 10) (codes "x") Int ∷ []) (Int ∷ []) (raw_name (on 3 25) (codes "x")) ∷ def (on 4 1) (codes "main") (param (on 4 10) (codes "a") Int ∷ []) (Int ∷ [])
    (raw_call (on 4 25) (codes "maxx") (raws_of ((raw_name (on 4 30) (codes "a")) ∷ []))) ∷ [])

the_last_function_first_is : checked Three Plain the_last_function_first ≡ Err (UnknownName (on 4 25))
the_last_function_first_is = refl

-- def main(a: int): int = evem(a)
-- def even(x: int): int = x
abbrev pub a_later_function_is_no_candidate : List RawItemTree
a_later_function_is_no_candidate =
    (def (on 2 1) (codes "main") (param (on 2 10) (codes "a") Int ∷ []) (Int ∷ []) (raw_call (on 2 25) (codes "evem") (raws_of ((raw_name (on 2 30) (codes
    "a")) ∷ []))) ∷ def (on 3 1) (codes "even") (param (on 3 10) (codes "x") Int ∷ []) (Int ∷ []) (raw_name (on 3 25) (codes "x")) ∷ [])

a_later_function_is_no_candidate_is : checked Three Plain a_later_function_is_no_candidate ≡ Err (UnknownName (on 2 25))
a_later_function_is_no_candidate_is = refl

-- def main(a: int): int = choose (x: int; ky: int) given ky > 0 where x == a
abbrev pub a_hidden_output_in_given : List RawItemTree
a_hidden_output_in_given =
    (def (on 2 1) (codes "main") (param (on 2 10) (codes "a") Int ∷ []) (Int ∷ []) (raw_choose (on 2 25) (param (on 2 33) (codes "x") Int ∷ []) (param (on 2
    41) (codes "ky") Int ∷ []) (given_that (on 2 50) (raw_binary (on 2 59) (Compare Gt) (raw_name (on 2 56) (codes "ky")) (raw_lit (on 2 61) (pos 0))))
    (raw_binary (on 2 71) (Compare Eq) (raw_name (on 2 69) (codes "x")) (raw_name (on 2 74) (codes "a"))) no_aim) ∷ [])

a_hidden_output_in_given_is : checked Three Plain a_hidden_output_in_given ≡ Err (UnknownName (on 2 56))
a_hidden_output_in_given_is = refl

-- def main(kz: int): int = choose (x: int; ky: int) given ky > 0 where x == kz
abbrev pub a_near_name_before_the_outputs_of_given : List RawItemTree
a_near_name_before_the_outputs_of_given =
    (def (on 2 1) (codes "main") (param (on 2 10) (codes "kz") Int ∷ []) (Int ∷ []) (raw_choose (on 2 26) (param (on 2 34) (codes "x") Int ∷ []) (param (on 2
    42) (codes "ky") Int ∷ []) (given_that (on 2 51) (raw_binary (on 2 60) (Compare Gt) (raw_name (on 2 57) (codes "ky")) (raw_lit (on 2 62) (pos 0))))
    (raw_binary (on 2 72) (Compare Eq) (raw_name (on 2 70) (codes "x")) (raw_name (on 2 75) (codes "kz"))) no_aim) ∷ [])

a_near_name_before_the_outputs_of_given_is : checked Three Plain a_near_name_before_the_outputs_of_given ≡ Err (UnknownName (on 2 57))
a_near_name_before_the_outputs_of_given_is = refl

-- def main(a: int): int = choose (xy: int) where xy == (choose (z: int) given xz > 0 where z == a)
abbrev pub outputs_of_given_are_none_in_the_relation : List RawItemTree
outputs_of_given_are_none_in_the_relation =
    (def (on 2 1) (codes "main") (param (on 2 10) (codes "a") Int ∷ []) (Int ∷ []) (raw_choose (on 2 25) (param (on 2 33) (codes "xy") Int ∷ []) [] no_given
    (raw_binary (on 2 51) (Compare Eq) (raw_name (on 2 48) (codes "xy")) (raw_group (on 2 54) (raw_choose (on 2 55) (param (on 2 63) (codes "z") Int ∷ []) []
    (given_that (on 2 71) (raw_binary (on 2 80) (Compare Gt) (raw_name (on 2 77) (codes "xz")) (raw_lit (on 2 82) (pos 0)))) (raw_binary (on 2 92) (Compare
    Eq) (raw_name (on 2 90) (codes "z")) (raw_name (on 2 95) (codes "a"))) no_aim))) no_aim) ∷ [])

outputs_of_given_are_none_in_the_relation_is : checked Three Plain outputs_of_given_are_none_in_the_relation ≡ Err (UnknownName (on 2 77))
outputs_of_given_are_none_in_the_relation_is = refl

-- const ab = 1
-- def main(ac: int): int = ad
abbrev pub a_constant_after_the_variables : List RawItemTree
a_constant_after_the_variables =
    (item_const (on 2 7) (codes "ab") (raw_lit (on 2 12) (pos 1)) ∷ def (on 3 1) (codes "main") (param (on 3 10) (codes "ac") Int ∷ []) (Int ∷ []) (raw_name
    (on 3 26) (codes "ad")) ∷ [])

a_constant_after_the_variables_is : checked Three Plain a_constant_after_the_variables ≡ Err (UnknownName (on 3 26))
a_constant_after_the_variables_is = refl

-- def main(ort: int): int = or(ort)
abbrev pub a_word_before_a_near_name : List RawItemTree
a_word_before_a_near_name =
    (def (on 2 1) (codes "main") (param (on 2 10) (codes "ort") Int ∷ []) (Int ∷ []) (raw_call (on 2 27) (codes "or") (raws_of ((raw_name (on 2 30) (codes
    "ort")) ∷ []))) ∷ [])

a_word_before_a_near_name_is : checked Three Plain a_word_before_a_near_name ≡ Err (UnknownName (on 2 27))
a_word_before_a_near_name_is = refl

-- def main(a: int): (int, int) = ((a, a), a)
abbrev pub tuple_in_a_tuple : List RawItemTree
tuple_in_a_tuple =
    (def (on 2 1) (codes "main") (param (on 2 10) (codes "a") Int ∷ []) (Int ∷ Int ∷ []) (raw_tuple (on 2 32) (raws_of ((raw_tuple (on 2 33) (raws_of
    ((raw_name (on 2 34) (codes "a")) ∷ (raw_name (on 2 37) (codes "a")) ∷ []))) ∷ (raw_name (on 2 41) (codes "a")) ∷ []))) ∷ [])

tuple_in_a_tuple_is : checked Three Plain tuple_in_a_tuple ≡ Err (Mismatch (on 2 32))
tuple_in_a_tuple_is = refl

-- def main(a: int): bool = !a
abbrev pub not_of_a_number : List RawItemTree
not_of_a_number =
    (def (on 2 1) (codes "main") (param (on 2 10) (codes "a") Int ∷ []) (Truth ∷ []) (raw_not (on 2 26) (raw_name (on 2 27) (codes "a"))) ∷ [])

not_of_a_number_is : checked Three Plain not_of_a_number ≡ Err (Mismatch (on 2 26))
not_of_a_number_is = refl

-- def main(a: int): int = card(a)
abbrev pub card_of_a_number : List RawItemTree
card_of_a_number =
    (def (on 2 1) (codes "main") (param (on 2 10) (codes "a") Int ∷ []) (Int ∷ []) (raw_card (on 2 25) (raw_name (on 2 30) (codes "a"))) ∷ [])

card_of_a_number_is : checked Three Plain card_of_a_number ≡ Err (Mismatch (on 2 25))
card_of_a_number_is = refl

-- def main(s: set): int = abs(s)
abbrev pub abs_of_a_set : List RawItemTree
abs_of_a_set =
    (def (on 2 1) (codes "main") (param (on 2 10) (codes "s") Set ∷ []) (Int ∷ []) (raw_abs (on 2 25) (raw_name (on 2 29) (codes "s"))) ∷ [])

abs_of_a_set_is : checked Three Plain abs_of_a_set ≡ Err (Mismatch (on 2 25))
abs_of_a_set_is = refl

-- def main(s: set): int = -s
abbrev pub minus_a_set : List RawItemTree
minus_a_set =
    (def (on 2 1) (codes "main") (param (on 2 10) (codes "s") Set ∷ []) (Int ∷ []) (raw_neg (on 2 25) (raw_name (on 2 26) (codes "s"))) ∷ [])

minus_a_set_is : checked Three Plain minus_a_set ≡ Err (Mismatch (on 2 25))
minus_a_set_is = refl

-- def main(s: set): bool = 2 divides s
abbrev pub divides_a_set : List RawItemTree
divides_a_set =
    (def (on 2 1) (codes "main") (param (on 2 10) (codes "s") Set ∷ []) (Truth ∷ []) (raw_divides (on 2 26) (number_lit (pos 2)) (raw_name (on 2 36) (codes
    "s"))) ∷ [])

divides_a_set_is : checked Three Plain divides_a_set ≡ Err (Mismatch (on 2 26))
divides_a_set_is = refl

-- def main(s: set): int = mod(s, 2)
abbrev pub mod_of_a_set : List RawItemTree
mod_of_a_set =
    (def (on 2 1) (codes "main") (param (on 2 10) (codes "s") Set ∷ []) (Int ∷ []) (raw_mod (on 2 25) (raw_name (on 2 29) (codes "s")) (number_lit (pos 2)))
    ∷ [])

mod_of_a_set_is : checked Three Plain mod_of_a_set ≡ Err (Mismatch (on 2 25))
mod_of_a_set_is = refl

-- def main(s: set): int = div(s, 2)
abbrev pub div_of_a_set : List RawItemTree
div_of_a_set =
    (def (on 2 1) (codes "main") (param (on 2 10) (codes "s") Set ∷ []) (Int ∷ []) (raw_div (on 2 25) (raw_name (on 2 29) (codes "s")) (number_lit (pos 2)))
    ∷ [])

div_of_a_set_is : checked Three Plain div_of_a_set ≡ Err (Mismatch (on 2 25))
div_of_a_set_is = refl

-- def main(s: set): int = max(1, 2, true)
abbrev pub max_of_a_truth_value : List RawItemTree
max_of_a_truth_value =
    (def (on 2 1) (codes "main") (param (on 2 10) (codes "s") Set ∷ []) (Int ∷ []) (raw_max (on 2 25) (raws_of ((raw_lit (on 2 29) (pos 1)) ∷ (raw_lit (on 2
    32) (pos 2)) ∷ (raw_truth (on 2 35) true) ∷ []))) ∷ [])

max_of_a_truth_value_is : checked Three Plain max_of_a_truth_value ≡ Err (Mismatch (on 2 25))
max_of_a_truth_value_is = refl

-- def main(s: set): set = {1, true}
abbrev pub set_of_a_truth_value : List RawItemTree
set_of_a_truth_value =
    (def (on 2 1) (codes "main") (param (on 2 10) (codes "s") Set ∷ []) (Set ∷ []) (raw_set_of (on 2 25) (raws_of ((raw_lit (on 2 26) (pos 1)) ∷ (raw_truth
    (on 2 29) true) ∷ []))) ∷ [])

set_of_a_truth_value_is : checked Three Plain set_of_a_truth_value ≡ Err (Mismatch (on 2 25))
set_of_a_truth_value_is = refl

-- def main(a: int): int = if a then 1 else 2
abbrev pub test_of_a_number : List RawItemTree
test_of_a_number =
    (def (on 2 1) (codes "main") (param (on 2 10) (codes "a") Int ∷ []) (Int ∷ []) (raw_if (on 2 25) (raw_name (on 2 28) (codes "a")) (raw_lit (on 2 35) (pos
    1)) (raw_lit (on 2 42) (pos 2))) ∷ [])

test_of_a_number_is : checked Three Plain test_of_a_number ≡ Err (Mismatch (on 2 25))
test_of_a_number_is = refl

-- def main(s: set, a: int): set = s union a
abbrev pub union_with_a_number : List RawItemTree
union_with_a_number =
    (def (on 2 1) (codes "main") (param (on 2 10) (codes "s") Set ∷ param (on 2 18) (codes "a") Int ∷ []) (Set ∷ []) (raw_binary (on 2 35) Union (raw_name
    (on 2 33) (codes "s")) (raw_name (on 2 41) (codes "a"))) ∷ [])

union_with_a_number_is : checked Three Plain union_with_a_number ≡ Err (Mismatch (on 2 35))
union_with_a_number_is = refl

-- def main(p: bool, a: int): bool = a && p
abbrev pub and_with_a_number : List RawItemTree
and_with_a_number =
    (def (on 2 1) (codes "main") (param (on 2 10) (codes "p") Truth ∷ param (on 2 19) (codes "a") Int ∷ []) (Truth ∷ []) (raw_binary (on 2 37) And (raw_name
    (on 2 35) (codes "a")) (raw_name (on 2 40) (codes "p"))) ∷ [])

and_with_a_number_is : checked Three Plain and_with_a_number ≡ Err (Mismatch (on 2 37))
and_with_a_number_is = refl

-- def main(a: int): bool = (a, a) == (a, a)
abbrev pub tuples_as_sides : List RawItemTree
tuples_as_sides =
    (def (on 2 1) (codes "main") (param (on 2 10) (codes "a") Int ∷ []) (Truth ∷ []) (raw_binary (on 2 33) (Compare Eq) (raw_tuple (on 2 26) (raws_of
    ((raw_name (on 2 27) (codes "a")) ∷ (raw_name (on 2 30) (codes "a")) ∷ []))) (raw_tuple (on 2 36) (raws_of ((raw_name (on 2 37) (codes "a")) ∷ (raw_name
    (on 2 40) (codes "a")) ∷ [])))) ∷ [])

tuples_as_sides_is : checked Three Plain tuples_as_sides ≡ Err (Mismatch (on 2 33))
tuples_as_sides_is = refl

-- def f(x: int, s: set): int = x
-- def main(a: int): int = f(a, a)
abbrev pub the_second_argument : List RawItemTree
the_second_argument =
    (def (on 2 1) (codes "f") (param (on 2 7) (codes "x") Int ∷ param (on 2 15) (codes "s") Set ∷ []) (Int ∷ []) (raw_name (on 2 30) (codes "x")) ∷ def (on 3
    1) (codes "main") (param (on 3 10) (codes "a") Int ∷ []) (Int ∷ []) (raw_call (on 3 25) (codes "f") (raws_of ((raw_name (on 3 27) (codes "a")) ∷
    (raw_name (on 3 30) (codes "a")) ∷ []))) ∷ [])

the_second_argument_is : checked Three Plain the_second_argument ≡ Err (Mismatch (on 3 25))
the_second_argument_is = refl

-- def main(a: int): (int, set) = (a, true)
abbrev pub results_of_several : List RawItemTree
results_of_several =
    (def (on 2 1) (codes "main") (param (on 2 10) (codes "a") Int ∷ []) (Int ∷ Set ∷ []) (raw_tuple (on 2 32) (raws_of ((raw_name (on 2 33) (codes "a")) ∷
    (raw_truth (on 2 36) true) ∷ []))) ∷ [])

results_of_several_is : checked Three Plain results_of_several ≡ Err (Mismatch (on 2 32))
results_of_several_is = refl

-- def main(a: int): int = match a with { 2 * i then i ; 3 * i then i ; i then {} }
abbrev pub the_third_arm : List RawItemTree
the_third_arm =
    (def (on 2 1) (codes "main") (param (on 2 10) (codes "a") Int ∷ []) (Int ∷ []) (raw_match (on 2 25) (raw_name (on 2 31) (codes "a")) (raw_arms_of
    (raw_arm (part (on 2 40) false (Some (number_lit (pos 2))) (on 2 44) (codes "i") ∷ []) (pos 0) (raw_name (on 2 51) (codes "i")) ∷ raw_arm (part (on 2 55)
    false (Some (number_lit (pos 3))) (on 2 59) (codes "i") ∷ []) (pos 0) (raw_name (on 2 66) (codes "i")) ∷ raw_arm (part (on 2 70) false None (on 2 70)
    (codes "i") ∷ []) (pos 0) (raw_set_of (on 2 77) (raws_of [])) ∷ []))) ∷ [])

the_third_arm_is : checked Three Plain the_third_arm ≡ Err (Mismatch (on 2 25))
the_third_arm_is = refl

-- def main(a: int): int = let (x, s) = (a, {}) in x + s
abbrev pub a_clash_in_a_let : List RawItemTree
a_clash_in_a_let =
    (def (on 2 1) (codes "main") (param (on 2 10) (codes "a") Int ∷ []) (Int ∷ []) (raw_let (on 2 25) ((codes "x") ∷ (codes "s") ∷ []) ((on 2 30) ∷ (on 2 33)
    ∷ []) (raw_tuple (on 2 38) (raws_of ((raw_name (on 2 39) (codes "a")) ∷ (raw_set_of (on 2 42) (raws_of [])) ∷ []))) (raw_binary (on 2 51) Add (raw_name
    (on 2 49) (codes "x")) (raw_name (on 2 53) (codes "s")))) ∷ [])

a_clash_in_a_let_is : checked Three Plain a_clash_in_a_let ≡ Err (Mismatch (on 2 51))
a_clash_in_a_let_is = refl

-- def main(a: int): bool = match a with { i then i && true }
abbrev pub a_clash_in_an_arm : List RawItemTree
a_clash_in_an_arm =
    (def (on 2 1) (codes "main") (param (on 2 10) (codes "a") Int ∷ []) (Truth ∷ []) (raw_match (on 2 26) (raw_name (on 2 32) (codes "a")) (raw_arms_of
    (raw_arm (part (on 2 41) false None (on 2 41) (codes "i") ∷ []) (pos 0) (raw_binary (on 2 50) And (raw_name (on 2 48) (codes "i")) (raw_truth (on 2 53)
    true)) ∷ []))) ∷ [])

a_clash_in_an_arm_is : checked Three Plain a_clash_in_an_arm ≡ Err (Mismatch (on 2 50))
a_clash_in_an_arm_is = refl

-- def main(a: int): bool = choose (p: bool; s: set) where s && p
abbrev pub a_clash_under_outputs : List RawItemTree
a_clash_under_outputs =
    (def (on 2 1) (codes "main") (param (on 2 10) (codes "a") Int ∷ []) (Truth ∷ []) (raw_choose (on 2 26) (param (on 2 34) (codes "p") Truth ∷ []) (param
    (on 2 43) (codes "s") Set ∷ []) no_given (raw_binary (on 2 59) And (raw_name (on 2 57) (codes "s")) (raw_name (on 2 62) (codes "p"))) no_aim) ∷ [])

a_clash_under_outputs_is : checked Three Plain a_clash_under_outputs ≡ Err (Mismatch (on 2 59))
a_clash_under_outputs_is = refl

-- def main(a: int): bool = choose (p: bool; s: set) where p minimise card(p)
abbrev pub a_clash_in_an_objective : List RawItemTree
a_clash_in_an_objective =
    (def (on 2 1) (codes "main") (param (on 2 10) (codes "a") Int ∷ []) (Truth ∷ []) (raw_choose (on 2 26) (param (on 2 34) (codes "p") Truth ∷ []) (param
    (on 2 43) (codes "s") Set ∷ []) no_given (raw_name (on 2 57) (codes "p")) (aim_at (on 2 59) Least (raw_card (on 2 68) (raw_name (on 2 73) (codes "p")))))
    ∷ [])

a_clash_in_an_objective_is : checked Three Plain a_clash_in_an_objective ≡ Err (Mismatch (on 2 68))
a_clash_in_an_objective_is = refl

-- def main(a: int, s: set): bool = choose (p: bool) given s + a == 1 where p
abbrev pub a_clash_in_given : List RawItemTree
a_clash_in_given =
    (def (on 2 1) (codes "main") (param (on 2 10) (codes "a") Int ∷ param (on 2 18) (codes "s") Set ∷ []) (Truth ∷ []) (raw_choose (on 2 34) (param (on 2 42)
    (codes "p") Truth ∷ []) [] (given_that (on 2 51) (raw_binary (on 2 63) (Compare Eq) (raw_binary (on 2 59) Add (raw_name (on 2 57) (codes "s")) (raw_name
    (on 2 61) (codes "a"))) (raw_lit (on 2 66) (pos 1)))) (raw_name (on 2 74) (codes "p")) no_aim) ∷ [])

a_clash_in_given_is : checked Three Plain a_clash_in_given ≡ Err (Mismatch (on 2 59))
a_clash_in_given_is = refl

-- def f(x: int): (int, set) = (x, {})
-- def main(a: int): int = f(a) + 1
abbrev pub a_clash_of_a_call : List RawItemTree
a_clash_of_a_call =
    (def (on 2 1) (codes "f") (param (on 2 7) (codes "x") Int ∷ []) (Int ∷ Set ∷ []) (raw_tuple (on 2 29) (raws_of ((raw_name (on 2 30) (codes "x")) ∷
    (raw_set_of (on 2 33) (raws_of [])) ∷ []))) ∷ def (on 3 1) (codes "main") (param (on 3 10) (codes "a") Int ∷ []) (Int ∷ []) (raw_binary (on 3 30) Add
    (raw_call (on 3 25) (codes "f") (raws_of ((raw_name (on 3 27) (codes "a")) ∷ []))) (raw_lit (on 3 32) (pos 1))) ∷ [])

a_clash_of_a_call_is : checked Three Plain a_clash_of_a_call ≡ Err (Mismatch (on 3 30))
a_clash_of_a_call_is = refl

-- def main(a: int): int = let (x, x) = (a, a) in x
abbrev pub let_of_a_duplicate : List RawItemTree
let_of_a_duplicate =
    (def (on 2 1) (codes "main") (param (on 2 10) (codes "a") Int ∷ []) (Int ∷ []) (raw_let (on 2 25) ((codes "x") ∷ (codes "x") ∷ []) ((on 2 30) ∷ (on 2 33)
    ∷ []) (raw_tuple (on 2 38) (raws_of ((raw_name (on 2 39) (codes "a")) ∷ (raw_name (on 2 42) (codes "a")) ∷ []))) (raw_name (on 2 48) (codes "x"))) ∷ [])

let_of_a_duplicate_is : checked Three Plain let_of_a_duplicate ≡ Err (DuplicateName (on 2 33))
let_of_a_duplicate_is = refl

-- def main(a: int): int = match a with { i + 2 * i then i ; j then j }
abbrev pub pattern_of_a_duplicate : List RawItemTree
pattern_of_a_duplicate =
    (def (on 2 1) (codes "main") (param (on 2 10) (codes "a") Int ∷ []) (Int ∷ []) (raw_match (on 2 25) (raw_name (on 2 31) (codes "a")) (raw_arms_of
    (raw_arm (part (on 2 40) false None (on 2 40) (codes "i") ∷ part (on 2 44) false (Some (number_lit (pos 2))) (on 2 48) (codes "i") ∷ []) (pos 0)
    (raw_name (on 2 55) (codes "i")) ∷ raw_arm (part (on 2 59) false None (on 2 59) (codes "j") ∷ []) (pos 0) (raw_name (on 2 66) (codes "j")) ∷ []))) ∷ [])

pattern_of_a_duplicate_is : checked Three Plain pattern_of_a_duplicate ≡ Err (DuplicateName (on 2 48))
pattern_of_a_duplicate_is = refl

-- const K = 2
-- def main(a: int, K: int): int = a
abbrev pub constant_and_repeated : List RawItemTree
constant_and_repeated =
    (item_const (on 2 7) (codes "K") (raw_lit (on 2 11) (pos 2)) ∷ def (on 3 1) (codes "main") (param (on 3 10) (codes "a") Int ∷ param (on 3 18) (codes "K")
    Int ∷ []) (Int ∷ []) (raw_name (on 3 33) (codes "a")) ∷ [])

constant_and_repeated_is : checked Three Plain constant_and_repeated ≡ Err (DuplicateName (on 3 18))
constant_and_repeated_is = refl

-- def main(K: int): int = K
-- const K = 3
abbrev pub a_later_constant : List RawItemTree
a_later_constant =
    (def (on 2 1) (codes "main") (param (on 2 10) (codes "K") Int ∷ []) (Int ∷ []) (raw_name (on 2 25) (codes "K")) ∷ item_const (on 3 7) (codes "K")
    (raw_lit (on 3 11) (pos 3)) ∷ [])

a_later_constant_is :
    checked Three Plain a_later_constant ≡ Ok (program (typed (codes "main") (param (on 2 10) (codes "K") Int ∷ []) (Int ∷ []) (expr_var 0) ∷ []) 0)
a_later_constant_is = refl

-- const K = let x = 3 in div(7, x)
-- def main(a: int): int = a
abbrev pub not_constant_in_a_let_of_a_constant : List RawItemTree
not_constant_in_a_let_of_a_constant =
    (item_const (on 2 7) (codes "K") (raw_let (on 2 11) ((codes "x") ∷ []) ((on 2 15) ∷ []) (raw_lit (on 2 19) (pos 3)) (raw_div (on 2 24) (raw_lit (on 2 28)
    (pos 7)) (number_name (on 2 31) (codes "x")))) ∷ def (on 3 1) (codes "main") (param (on 3 10) (codes "a") Int ∷ []) (Int ∷ []) (raw_name (on 3 25) (codes
    "a")) ∷ [])

not_constant_in_a_let_of_a_constant_is : checked Three Plain not_constant_in_a_let_of_a_constant ≡ Err (NotConstant (on 2 31))
not_constant_in_a_let_of_a_constant_is = refl

-- const K = 3
-- const L = if K divides 6 then 1 else 2
-- def main(a: int): int = a
abbrev pub divides_by_a_constant_in_a_constant : List RawItemTree
divides_by_a_constant_in_a_constant =
    (item_const (on 2 7) (codes "K") (raw_lit (on 2 11) (pos 3)) ∷ item_const (on 3 7) (codes "L") (raw_if (on 3 11) (raw_divides (on 3 14) (number_name (on
    3 14) (codes "K")) (raw_lit (on 3 24) (pos 6))) (raw_lit (on 3 31) (pos 1)) (raw_lit (on 3 38) (pos 2))) ∷ def (on 4 1) (codes "main") (param (on 4 10)
    (codes "a") Int ∷ []) (Int ∷ []) (raw_name (on 4 25) (codes "a")) ∷ [])

divides_by_a_constant_in_a_constant_is : checked Three Plain divides_by_a_constant_in_a_constant ≡ Err (NotConstant (on 3 14))
divides_by_a_constant_in_a_constant_is = refl

-- const STEP = 2
-- def main(a: int): int = match a with { STEK * i then i ; j then j }
abbrev pub a_factor_of_nothing : List RawItemTree
a_factor_of_nothing =
    (item_const (on 2 7) (codes "STEP") (raw_lit (on 2 14) (pos 2)) ∷ def (on 3 1) (codes "main") (param (on 3 10) (codes "a") Int ∷ []) (Int ∷ [])
    (raw_match (on 3 25) (raw_name (on 3 31) (codes "a")) (raw_arms_of (raw_arm (part (on 3 40) false (Some (number_name (on 3 40) (codes "STEK"))) (on 3 47)
    (codes "i") ∷ []) (pos 0) (raw_name (on 3 54) (codes "i")) ∷ raw_arm (part (on 3 58) false None (on 3 58) (codes "j") ∷ []) (pos 0) (raw_name (on 3 65)
    (codes "j")) ∷ []))) ∷ [])

a_factor_of_nothing_is : checked Three Plain a_factor_of_nothing ≡ Err (UnknownName (on 3 40))
a_factor_of_nothing_is = refl

-- def f(x: int, y: int): int = x
-- def main(a: int): int = f()
abbrev pub a_call_with_more : List RawItemTree
a_call_with_more =
    (def (on 2 1) (codes "f") (param (on 2 7) (codes "x") Int ∷ param (on 2 15) (codes "y") Int ∷ []) (Int ∷ []) (raw_name (on 2 30) (codes "x")) ∷ def (on 3
    1) (codes "main") (param (on 3 10) (codes "a") Int ∷ []) (Int ∷ []) (raw_call (on 3 25) (codes "f") (raws_of [])) ∷ [])

a_call_with_more_is : checked Three Plain a_call_with_more ≡ Err (WrongCount (on 3 25))
a_call_with_more_is = refl

-- def main(a: int): int = let x = (a, a, a) in x
abbrev pub let_with_fewer : List RawItemTree
let_with_fewer =
    (def (on 2 1) (codes "main") (param (on 2 10) (codes "a") Int ∷ []) (Int ∷ []) (raw_let (on 2 25) ((codes "x") ∷ []) ((on 2 29) ∷ []) (raw_tuple (on 2
    33) (raws_of ((raw_name (on 2 34) (codes "a")) ∷ (raw_name (on 2 37) (codes "a")) ∷ (raw_name (on 2 40) (codes "a")) ∷ []))) (raw_name (on 2 46) (codes
    "x"))) ∷ [])

let_with_fewer_is : checked Three Plain let_with_fewer ≡ Err (WrongCount (on 2 25))
let_with_fewer_is = refl

-- def main(a: int): int = choose (x: int) given {1} == {} where x == a
abbrev pub a_set_literal_in_given : List RawItemTree
a_set_literal_in_given =
    (def (on 2 1) (codes "main") (param (on 2 10) (codes "a") Int ∷ []) (Int ∷ []) (raw_choose (on 2 25) (param (on 2 33) (codes "x") Int ∷ []) []
    (given_that (on 2 41) (raw_binary (on 2 51) (Compare Eq) (raw_set_of (on 2 47) (raws_of ((raw_lit (on 2 48) (pos 1)) ∷ []))) (raw_set_of (on 2 54)
    (raws_of [])))) (raw_binary (on 2 65) (Compare Eq) (raw_name (on 2 63) (codes "x")) (raw_name (on 2 68) (codes "a"))) no_aim) ∷ [])

a_set_literal_in_given_is : checked Three Plain a_set_literal_in_given ≡ Err (NotLinear (on 2 47))
a_set_literal_in_given_is = refl

-- def main(a: int): int = choose (x: int) where x == a minimise match x with { i then i }
abbrev pub a_match_in_an_objective : List RawItemTree
a_match_in_an_objective =
    (def (on 2 1) (codes "main") (param (on 2 10) (codes "a") Int ∷ []) (Int ∷ []) (raw_choose (on 2 25) (param (on 2 33) (codes "x") Int ∷ []) [] no_given
    (raw_binary (on 2 49) (Compare Eq) (raw_name (on 2 47) (codes "x")) (raw_name (on 2 52) (codes "a"))) (aim_at (on 2 54) Least (raw_match (on 2 63)
    (raw_name (on 2 69) (codes "x")) (raw_arms_of (raw_arm (part (on 2 78) false None (on 2 78) (codes "i") ∷ []) (pos 0) (raw_name (on 2 85) (codes "i")) ∷
    []))))) ∷ [])

a_match_in_an_objective_is : checked Three Plain a_match_in_an_objective ≡ Err (NotLinear (on 2 63))
a_match_in_an_objective_is = refl

-- def times(x: int, y: int): int = x * y
-- def main(a: int, b: int): int = choose (x: int) given times(a, b) > 0 where x == a
abbrev pub inputs_in_a_call_of_given : List RawItemTree
inputs_in_a_call_of_given =
    (def (on 2 1) (codes "times") (param (on 2 11) (codes "x") Int ∷ param (on 2 19) (codes "y") Int ∷ []) (Int ∷ []) (raw_binary (on 2 36) Mul (raw_name (on
    2 34) (codes "x")) (raw_name (on 2 38) (codes "y"))) ∷ def (on 3 1) (codes "main") (param (on 3 10) (codes "a") Int ∷ param (on 3 18) (codes "b") Int ∷
    []) (Int ∷ []) (raw_choose (on 3 33) (param (on 3 41) (codes "x") Int ∷ []) [] (given_that (on 3 49) (raw_binary (on 3 67) (Compare Gt) (raw_call (on 3
    55) (codes "times") (raws_of ((raw_name (on 3 61) (codes "a")) ∷ (raw_name (on 3 64) (codes "b")) ∷ []))) (raw_lit (on 3 69) (pos 0)))) (raw_binary (on 3
    79) (Compare Eq) (raw_name (on 3 77) (codes "x")) (raw_name (on 3 82) (codes "a"))) no_aim) ∷ [])

inputs_in_a_call_of_given_is : checked Three Plain inputs_in_a_call_of_given ≡ Err (NotLinear (on 3 55))
inputs_in_a_call_of_given_is = refl

-- def rematch(x: int, y: int): int = 2 * x * y
-- def main(a: int): int = choose (x: int) where rematch(x, 2) == a
abbrev pub a_name_like_a_cause : List RawItemTree
a_name_like_a_cause =
    (def (on 2 1) (codes "rematch") (param (on 2 13) (codes "x") Int ∷ param (on 2 21) (codes "y") Int ∷ []) (Int ∷ []) (raw_binary (on 2 42) Mul (raw_binary
    (on 2 38) Mul (raw_lit (on 2 36) (pos 2)) (raw_name (on 2 40) (codes "x"))) (raw_name (on 2 44) (codes "y"))) ∷ def (on 3 1) (codes "main") (param (on 3
    10) (codes "a") Int ∷ []) (Int ∷ []) (raw_choose (on 3 25) (param (on 3 33) (codes "x") Int ∷ []) [] no_given (raw_binary (on 3 61) (Compare Eq)
    (raw_call (on 3 47) (codes "rematch") (raws_of ((raw_name (on 3 55) (codes "x")) ∷ (raw_lit (on 3 58) (pos 2)) ∷ []))) (raw_name (on 3 64) (codes "a")))
    no_aim) ∷ [])

a_name_like_a_cause_is :
    checked Three Plain a_name_like_a_cause ≡ Ok (program (typed (codes "rematch") (param (on 2 13) (codes "x") Int ∷ param (on 2 21) (codes "y") Int ∷ [])
    (Int ∷ []) (expr_binary Mul (expr_binary Mul (expr_lit (pos 2)) (expr_var 0)) (expr_var 1)) ∷ typed (codes "main") (param (on 3 10) (codes "a") Int ∷ [])
    (Int ∷ []) (expr_choose_where 1 (param (on 3 10) (codes "a") Int ∷ []) (Int ∷ []) [] holds_always (expr_binary (Compare Eq) (expr_call 0 (exprs_of
    ((expr_var 1) ∷ (expr_lit (pos 2)) ∷ []))) (expr_var 0)) at_any) ∷ []) 1)
a_name_like_a_cause_is = refl

-- def main(a: int): int = ab
abbrev pub a_candidate_of_one_byte : List RawItemTree
a_candidate_of_one_byte =
    (def (on 2 1) (codes "main") (param (on 2 10) (codes "a") Int ∷ []) (Int ∷ []) (raw_name (on 2 25) (codes "ab")) ∷ [])

a_candidate_of_one_byte_is : checked Three Plain a_candidate_of_one_byte ≡ Err (UnknownName (on 2 25))
a_candidate_of_one_byte_is = refl

-- def main(ab: int): int = a
abbrev pub a_name_of_one_byte : List RawItemTree
a_name_of_one_byte =
    (def (on 2 1) (codes "main") (param (on 2 10) (codes "ab") Int ∷ []) (Int ∷ []) (raw_name (on 2 26) (codes "a")) ∷ [])

a_name_of_one_byte_is : checked Three Plain a_name_of_one_byte ≡ Err (UnknownName (on 2 26))
a_name_of_one_byte_is = refl

-- const K = 3
-- def main(a: int): int = match a with { i - K then i }
abbrev pub a_constant_alone_under_a_minus : List RawItemTree
a_constant_alone_under_a_minus =
    (item_const (on 2 7) (codes "K") (raw_lit (on 2 11) (pos 3)) ∷ def (on 3 1) (codes "main") (param (on 3 10) (codes "a") Int ∷ []) (Int ∷ []) (raw_match
    (on 3 25) (raw_name (on 3 31) (codes "a")) (raw_arms_of (raw_arm (part (on 3 40) false None (on 3 40) (codes "i") ∷ part (on 3 44) true None (on 3 44)
    (codes "K") ∷ []) (pos 0) (raw_name (on 3 51) (codes "i")) ∷ []))) ∷ [])

a_constant_alone_under_a_minus_is :
    checked Three Plain a_constant_alone_under_a_minus ≡ Ok (program (typed (codes "main") (param (on 3 10) (codes "a") Int ∷ []) (Int ∷ []) (expr_match 1
    (param (on 3 10) (codes "a") Int ∷ param (on 3 25) (codes "match") Int ∷ []) (expr_var 0) (match_arms_of (match_arm 2 ((pos 1) ∷ []) (negsuc 2) (expr_var
    2) ∷ []))) ∷ []) 0)
a_constant_alone_under_a_minus_is = refl

-- const K = abs(0 - 7) + abs(7)
-- def main(a: int): int = K
abbrev pub abs_of_a_constant : List RawItemTree
abs_of_a_constant =
    (item_const (on 2 7) (codes "K") (raw_binary (on 2 22) Add (raw_abs (on 2 11) (raw_binary (on 2 17) Sub (raw_lit (on 2 15) (pos 0)) (raw_lit (on 2 19)
    (pos 7)))) (raw_abs (on 2 24) (raw_lit (on 2 28) (pos 7)))) ∷ def (on 3 1) (codes "main") (param (on 3 10) (codes "a") Int ∷ []) (Int ∷ []) (raw_name (on
    3 25) (codes "K")) ∷ [])

abs_of_a_constant_is :
    checked Three Plain abs_of_a_constant ≡ Ok (program (typed (codes "main") (param (on 3 10) (codes "a") Int ∷ []) (Int ∷ []) (expr_lit (pos 14)) ∷ []) 0)
abs_of_a_constant_is = refl
