-- Worked examples of constants: the value of an expression, or its first fault; and programs with constants.
--
-- Above each example stands its expression, where K is 3 and N is -2, and a, b and c are no constants; or its source, behind the header in the first line.
use Rattle.std.specs.Prelude.{ℕ, pos, negsuc, true, false, ◌≡◌, List, [], ◌∷◌, codes, None, Ok, Err, refl}
use Rattle.cf_tree.specs.declared.base.Base.TheVariants.{Int, Set}
use Rattle.cf_tree.specs.declared.base.Edition.TheVariants.{Three}
use Rattle.cf_tree.specs.declared.base.Order.TheVariants.{Eq, Lt}
use Rattle.cf_tree.specs.declared.base.Sense.TheVariants.{Least}
use Rattle.cf_tree.specs.declared.raw.BinOp.TheVariants.{And, Or, Union, Inter, Diff, Subset, Implies, Compare}
use Rattle.cf_tree.specs.DefView.{RawItemTree, item_const, DefTree}
use Rattle.cf_tree.specs.ExprTree.{expr_var, expr_div, expr_call, expr_match, exprs_of, match_arm, match_arms_of}
use Rattle.cf_tree.specs.RawTree.{RawTree, raw_lit, raw_name, raw_tuple, raw_neg, raw_not, raw_binary, raw_chain, raw_min, raw_max, raw_divides, raw_div, raw_mod, raw_card, raw_call, raw_if, raw_let, raw_choose, raw_match, RawArmTree, raw_arm, raws_of, raw_arms_of, number_lit, number_name, no_given, given_that, no_aim, aim_at}
use Rattle.cf_program.specs.declared.fault.TypeFault.TheVariants.{DuplicateName, NotConstant, ConstantBelow, ConstantPast}
use Rattle.cf_program.specs.declared.linearity.Linearity.TheVariants.{Plain}
use Rattle.cf_program.specs.Checked.{TypedTree, checked}
use Rattle.cf_program.specs.Constants.{Constant, value}
use Rattle.cf_program.proofs.EditionExamples.{def, part, typed}
use Rattle.cf_program.proofs.RuleExamples.{at, on, param}

abbrev constants : List Constant
constants = record { name = codes "K"; value = pos 3 } ∷ record { name = codes "N"; value = negsuc 1 } ∷ []

abbrev number : ℕ → ℕ → RawTree
number column n = raw_lit (at column) (pos n)

abbrev name : ℕ → List ℕ → RawTree
name column x = raw_name (at column) x

abbrev arm : RawTree → RawArmTree
arm body = raw_arm [] (pos 0) body

-- 1 < 2 < last
abbrev chain : RawTree → RawTree
chain last = raw_chain (at 3) (Lt ∷ Lt ∷ []) (at 3 ∷ at 7 ∷ []) (raws_of (number 1 1 ∷ number 5 2 ∷ last ∷ []))

-- choose (x: int) given p where r minimise e
abbrev choosing : RawTree → RawTree → RawTree → RawTree
choosing p r e = raw_choose (at 1) (param (at 9) (codes "x") Int ∷ []) [] (given_that (at 17) p) r (aim_at (at 33) Least e)

-- N
the_second_constant : value constants (name 1 (codes "N")) ≡ Ok (negsuc 1)
the_second_constant = refl

-- 1 && 2
and_is_not_constant : value constants (raw_binary (at 3) And (number 1 1) (number 6 2)) ≡ Err (NotConstant (at 3))
and_is_not_constant = refl

-- 1 || 2
or_is_not_constant : value constants (raw_binary (at 3) Or (number 1 1) (number 6 2)) ≡ Err (NotConstant (at 3))
or_is_not_constant = refl

-- 1 union 2
union_is_not_constant : value constants (raw_binary (at 3) Union (number 1 1) (number 9 2)) ≡ Err (NotConstant (at 3))
union_is_not_constant = refl

-- 1 inter 2
inter_is_not_constant : value constants (raw_binary (at 3) Inter (number 1 1) (number 9 2)) ≡ Err (NotConstant (at 3))
inter_is_not_constant = refl

-- 1 diff 2
diff_is_not_constant : value constants (raw_binary (at 3) Diff (number 1 1) (number 8 2)) ≡ Err (NotConstant (at 3))
diff_is_not_constant = refl

-- 1 subset 2
subset_is_not_constant : value constants (raw_binary (at 3) Subset (number 1 1) (number 10 2)) ≡ Err (NotConstant (at 3))
subset_is_not_constant = refl

-- 1 ==> 2
implies_is_not_constant : value constants (raw_binary (at 3) Implies (number 1 1) (number 7 2)) ≡ Err (NotConstant (at 3))
implies_is_not_constant = refl

-- min(2, 4, 1)
least_of_three : value constants (raw_min (at 1) (raws_of (number 5 2 ∷ number 8 4 ∷ number 11 1 ∷ []))) ≡ Ok (pos 1)
least_of_three = refl

-- max(2, 1, 4)
greatest_of_three : value constants (raw_max (at 1) (raws_of (number 5 2 ∷ number 8 1 ∷ number 11 4 ∷ []))) ≡ Ok (pos 4)
greatest_of_three = refl

-- min()
least_of_none : value constants (raw_min (at 1) (raws_of ([]))) ≡ Ok (pos 0)
least_of_none = refl

-- min(a, b)
parts_in_their_order : value constants (raw_min (at 1) (raws_of (name 5 (codes "a") ∷ name 8 (codes "b") ∷ []))) ≡ Err (NotConstant (at 5))
parts_in_their_order = refl

-- mod(-7, K)
rest_by_a_constant : value constants (raw_mod (at 1) (raw_neg (at 5) (number 6 7)) (number_name (at 9) (codes "K"))) ≡ Ok (pos 2)
rest_by_a_constant = refl

-- div(7, a)
quotient_by_no_constant : value constants (raw_div (at 1) (number 5 7) (number_name (at 8) (codes "a"))) ≡ Ok (pos 7)
quotient_by_no_constant = refl

-- div(7, N)
quotient_by_a_constant_below_1 : value constants (raw_div (at 1) (number 5 7) (number_name (at 8) (codes "N"))) ≡ Ok (pos 0)
quotient_by_a_constant_below_1 = refl

-- mod(7, N)
rest_by_a_constant_below_1 : value constants (raw_mod (at 1) (number 5 7) (number_name (at 8) (codes "N"))) ≡ Ok (pos 7)
rest_by_a_constant_below_1 = refl

-- !1
not_is_not_constant : value constants (raw_not (at 1) (number 2 1)) ≡ Err (NotConstant (at 1))
not_is_not_constant = refl

-- !a
not_behind_its_part : value constants (raw_not (at 1) (name 2 (codes "a"))) ≡ Err (NotConstant (at 2))
not_behind_its_part = refl

-- card(1)
card_is_not_constant : value constants (raw_card (at 1) (number 6 1)) ≡ Err (NotConstant (at 1))
card_is_not_constant = refl

-- 2 divides a
divides_behind_its_part : value constants (raw_divides (at 1) (number_lit (pos 2)) (name 11 (codes "a"))) ≡ Err (NotConstant (at 11))
divides_behind_its_part = refl

-- (1, 2)
tuple_is_not_constant : value constants (raw_tuple (at 1) (raws_of (number 2 1 ∷ number 5 2 ∷ []))) ≡ Err (NotConstant (at 1))
tuple_is_not_constant = refl

-- 1 < 2 < 3
chain_is_not_constant : value constants (chain (number 9 3)) ≡ Err (NotConstant (at 3))
chain_is_not_constant = refl

-- 1 < 2 < a
chain_behind_its_parts : value constants (chain (name 9 (codes "a"))) ≡ Err (NotConstant (at 9))
chain_behind_its_parts = refl

-- f(1, a)
call_behind_its_parts : value constants (raw_call (at 1) (codes "f") (raws_of (number 3 1 ∷ name 6 (codes "a") ∷ []))) ≡ Err (NotConstant (at 6))
call_behind_its_parts = refl

-- if 1 then 2 else 3
if_is_not_constant : value constants (raw_if (at 1) (number 4 1) (number 11 2) (number 18 3)) ≡ Err (NotConstant (at 1))
if_is_not_constant = refl

-- if a then b else c
test_before_the_branches : value constants (raw_if (at 1) (name 4 (codes "a")) (name 11 (codes "b")) (name 18 (codes "c"))) ≡ Err (NotConstant (at 4))
test_before_the_branches = refl

-- if 1 then b else c
first_branch_before_the_second : value constants (raw_if (at 1) (number 4 1) (name 11 (codes "b")) (name 18 (codes "c"))) ≡ Err (NotConstant (at 11))
first_branch_before_the_second = refl

-- if 1 then 2 else c
second_branch_before_the_if : value constants (raw_if (at 1) (number 4 1) (number 11 2) (name 18 (codes "c"))) ≡ Err (NotConstant (at 18))
second_branch_before_the_if = refl

-- let x = a in b
value_before_the_body : value constants (raw_let (at 1) (codes "x" ∷ []) (at 5 ∷ []) (name 9 (codes "a")) (name 14 (codes "b"))) ≡ Err (NotConstant (at 9))
value_before_the_body = refl

-- choose (x: int) given a where b minimise c
given_first : value constants (choosing (name 23 (codes "a")) (name 31 (codes "b")) (name 42 (codes "c"))) ≡ Err (NotConstant (at 23))
given_first = refl

-- choose (x: int) given 1 where b minimise c
relation_behind_the_given : value constants (choosing (number 23 1) (name 31 (codes "b")) (name 42 (codes "c"))) ≡ Err (NotConstant (at 31))
relation_behind_the_given = refl

-- choose (x: int) given 1 where 2 minimise c
objective_behind_the_relation : value constants (choosing (number 23 1) (number 31 2) (name 42 (codes "c"))) ≡ Err (NotConstant (at 42))
objective_behind_the_relation = refl

-- choose (x: int) given 1 where 2 minimise 3
choose_behind_its_parts : value constants (choosing (number 23 1) (number 31 2) (number 42 3)) ≡ Err (NotConstant (at 1))
choose_behind_its_parts = refl

-- match a with { 0 then b }
matched_first : value constants (raw_match (at 1) (name 7 (codes "a")) (raw_arms_of (arm (name 23 (codes "b")) ∷ []))) ≡ Err (NotConstant (at 7))
matched_first = refl

-- match 1 with { 0 then b ; 0 then c }
arms_in_their_order :
    value constants (raw_match (at 1) (number 7 1) (raw_arms_of (arm (name 23 (codes "b")) ∷ arm (name 34 (codes "c")) ∷ []))) ≡ Err (NotConstant (at 23))
arms_in_their_order = refl

-- match 1 with { 0 then 1 ; 0 then c }
last_arm_before_the_match :
    value constants (raw_match (at 1) (number 7 1) (raw_arms_of (arm (number 23 1) ∷ arm (name 34 (codes "c")) ∷ []))) ≡ Err (NotConstant (at 34))
last_arm_before_the_match = refl

abbrev program : List DefTree → ℕ → TypedTree
program defs main = record { defs = defs; main = main }

-- const f = 2
-- def f(x: int): int = x
-- def main(a: int): int = f(a)
abbrev a_function_may_have_the_name_of_a_constant : List RawItemTree
a_function_may_have_the_name_of_a_constant =
    (item_const (on 2 7) (codes "f") (raw_lit (on 2 11) (pos 2)) ∷ def (on 3 1) (codes "f") (param (on 3 7) (codes "x") Int ∷ []) (Int ∷ []) (raw_name (on
    3 22) (codes "x")) ∷ def (on 4 1) (codes "main") (param (on 4 10) (codes "a") Int ∷ []) (Int ∷ []) (raw_call (on 4 25) (codes "f") (raws_of ((raw_name
    (on 4 27) (codes "a")) ∷ []))) ∷ [])

a_function_may_have_the_name_of_a_constant_is :
    checked Three Plain a_function_may_have_the_name_of_a_constant ≡ Ok (program (typed (codes "f") (param (on 3 7) (codes "x") Int ∷ []) (Int ∷ [])
    (expr_var 0) ∷ typed (codes "main") (param (on 4 10) (codes "a") Int ∷ []) (Int ∷ []) (expr_call 0 (exprs_of ((expr_var 0) ∷ []))) ∷ []) 1)
a_function_may_have_the_name_of_a_constant_is = refl

-- const K = 1
-- const K = b
-- def main(a: int): int = a
abbrev a_constant_name_before_its_value : List RawItemTree
a_constant_name_before_its_value =
    (item_const (on 2 7) (codes "K") (raw_lit (on 2 11) (pos 1)) ∷ item_const (on 3 7) (codes "K") (raw_name (on 3 11) (codes "b")) ∷ def (on 4 1) (codes
    "main") (param (on 4 10) (codes "a") Int ∷ []) (Int ∷ []) (raw_name (on 4 25) (codes "a")) ∷ [])

a_constant_name_before_its_value_is : checked Three Plain a_constant_name_before_its_value ≡ Err (DuplicateName (on 3 7))
a_constant_name_before_its_value_is = refl

-- const Z = 0
-- def main(s: set): int = mod(s, Z)
abbrev mod_by_a_constant_below_1_before_the_type : List RawItemTree
mod_by_a_constant_below_1_before_the_type =
    (item_const (on 2 7) (codes "Z") (raw_lit (on 2 11) (pos 0)) ∷ def (on 3 1) (codes "main") (param (on 3 10) (codes "s") Set ∷ []) (Int ∷ []) (raw_mod
    (on 3 25) (raw_name (on 3 29) (codes "s")) (number_name (on 3 32) (codes "Z"))) ∷ [])

mod_by_a_constant_below_1_before_the_type_is : checked Three Plain mod_by_a_constant_below_1_before_the_type ≡ Err (ConstantBelow (on 3 32))
mod_by_a_constant_below_1_before_the_type_is = refl

-- const ONE = 1
-- def main(a: int): int = div(a, ONE)
abbrev the_least_divisor : List RawItemTree
the_least_divisor =
    (item_const (on 2 7) (codes "ONE") (raw_lit (on 2 13) (pos 1)) ∷ def (on 3 1) (codes "main") (param (on 3 10) (codes "a") Int ∷ []) (Int ∷ []) (raw_div
    (on 3 25) (raw_name (on 3 29) (codes "a")) (number_name (on 3 32) (codes "ONE"))) ∷ [])

the_least_divisor_is :
    checked Three Plain the_least_divisor ≡ Ok (program (typed (codes "main") (param (on 3 10) (codes "a") Int ∷ []) (Int ∷ []) (expr_div (expr_var 0) (pos
    1)) ∷ []) 0)
the_least_divisor_is = refl

-- const k = 1
-- def main(a: int): int = choose (x: int; k: int) where x == a
abbrev a_hidden_output_named_as_a_constant : List RawItemTree
a_hidden_output_named_as_a_constant =
    (item_const (on 2 7) (codes "k") (raw_lit (on 2 11) (pos 1)) ∷ def (on 3 1) (codes "main") (param (on 3 10) (codes "a") Int ∷ []) (Int ∷ [])
    (raw_choose (on 3 25) (param (on 3 33) (codes "x") Int ∷ []) (param (on 3 41) (codes "k") Int ∷ []) no_given (raw_binary (on 3 57) (Compare Eq)
    (raw_name (on 3 55) (codes "x")) (raw_name (on 3 60) (codes "a"))) no_aim) ∷ [])

a_hidden_output_named_as_a_constant_is : checked Three Plain a_hidden_output_named_as_a_constant ≡ Err (DuplicateName (on 3 41))
a_hidden_output_named_as_a_constant_is = refl

-- def main(a: int): int = match a with { -i then i }
abbrev a_negative_variable : List RawItemTree
a_negative_variable =
    (def (on 2 1) (codes "main") (param (on 2 10) (codes "a") Int ∷ []) (Int ∷ []) (raw_match (on 2 25) (raw_name (on 2 31) (codes "a")) (raw_arms_of
    (raw_arm (part (on 2 40) true None (on 2 41) (codes "i") ∷ []) (pos 0) (raw_name (on 2 48) (codes "i")) ∷ []))) ∷ [])

a_negative_variable_is :
    checked Three Plain a_negative_variable ≡ Ok (program (typed (codes "main") (param (on 2 10) (codes "a") Int ∷ []) (Int ∷ []) (expr_match 1 (param (on
    2 10) (codes "a") Int ∷ param (on 2 25) (codes "match") Int ∷ []) (expr_var 0) (match_arms_of (match_arm 2 ((negsuc 0) ∷ []) (pos 0) (expr_var 2) ∷
    []))) ∷ []) 0)
a_negative_variable_is = refl

-- const M = 170141183460469231731687303715884105727
-- def main(a: int): int = match a with { i + M + 1 then i }
abbrev the_literal_is_part_of_the_sum : List RawItemTree
the_literal_is_part_of_the_sum =
    (item_const (on 2 7) (codes "M") (raw_lit (on 2 11) (pos 170141183460469231731687303715884105727)) ∷ def (on 3 1) (codes "main") (param (on 3 10)
    (codes "a") Int ∷ []) (Int ∷ []) (raw_match (on 3 25) (raw_name (on 3 31) (codes "a")) (raw_arms_of (raw_arm (part (on 3 40) false None (on 3 40)
    (codes "i") ∷ part (on 3 44) false None (on 3 44) (codes "M") ∷ []) (pos 1) (raw_name (on 3 55) (codes "i")) ∷ []))) ∷ [])

the_literal_is_part_of_the_sum_is : checked Three Plain the_literal_is_part_of_the_sum ≡ Err (ConstantPast (on 3 40))
the_literal_is_part_of_the_sum_is = refl

-- const M = 170141183460469231731687303715884105727
-- def main(a: int): int = match a with { i + M + M - M then i }
abbrev a_sum_that_comes_back : List RawItemTree
a_sum_that_comes_back =
    (item_const (on 2 7) (codes "M") (raw_lit (on 2 11) (pos 170141183460469231731687303715884105727)) ∷ def (on 3 1) (codes "main") (param (on 3 10)
    (codes "a") Int ∷ []) (Int ∷ []) (raw_match (on 3 25) (raw_name (on 3 31) (codes "a")) (raw_arms_of (raw_arm (part (on 3 40) false None (on 3 40)
    (codes "i") ∷ part (on 3 44) false None (on 3 44) (codes "M") ∷ part (on 3 48) false None (on 3 48) (codes "M") ∷ part (on 3 52) true None (on 3 52)
    (codes "M") ∷ []) (pos 0) (raw_name (on 3 59) (codes "i")) ∷ []))) ∷ [])

a_sum_that_comes_back_is :
    checked Three Plain a_sum_that_comes_back ≡ Ok (program (typed (codes "main") (param (on 3 10) (codes "a") Int ∷ []) (Int ∷ []) (expr_match 1 (param
    (on 3 10) (codes "a") Int ∷ param (on 3 25) (codes "match") Int ∷ []) (expr_var 0) (match_arms_of (match_arm 2 ((pos 1) ∷ []) (pos
    170141183460469231731687303715884105727) (expr_var 2) ∷ []))) ∷ []) 0)
a_sum_that_comes_back_is = refl

-- const M = 170141183460469231731687303715884105727
-- def main(a: int): int = match a with { -M - M + i then i }
abbrev a_sum_past_the_limit_at_its_first_token : List RawItemTree
a_sum_past_the_limit_at_its_first_token =
    (item_const (on 2 7) (codes "M") (raw_lit (on 2 11) (pos 170141183460469231731687303715884105727)) ∷ def (on 3 1) (codes "main") (param (on 3 10)
    (codes "a") Int ∷ []) (Int ∷ []) (raw_match (on 3 25) (raw_name (on 3 31) (codes "a")) (raw_arms_of (raw_arm (part (on 3 40) true None (on 3 41) (codes
    "M") ∷ part (on 3 45) true None (on 3 45) (codes "M") ∷ part (on 3 49) false None (on 3 49) (codes "i") ∷ []) (pos 0) (raw_name (on 3 56) (codes "i"))
    ∷ []))) ∷ [])

a_sum_past_the_limit_at_its_first_token_is : checked Three Plain a_sum_past_the_limit_at_its_first_token ≡ Err (ConstantPast (on 3 40))
a_sum_past_the_limit_at_its_first_token_is = refl
