-- Worked examples of linear relations as expressions with levels.
use Rattle.std.specs.Prelude.{pos, negsuc, Bool, true, false, ◌≡◌, List, [], ◌∷◌, ◌++◌, codes, is_some, refl}
use Rattle.cf_tree.specs.declared.base.Base.TheVariants.{Int, Bool as Truth, Set}
use Rattle.cf_tree.specs.declared.base.Order.TheVariants.{Eq, Lt, Le, Gt, Ge}
use Rattle.cf_tree.specs.declared.raw.BinOp.TheVariants.{Add, Mul, And, Subset, Implies, Compare}
use Rattle.cf_tree.specs.DefView.{DefTree}
use Rattle.cf_tree.specs.ExprTree.{ExprTree, expr_lit, expr_var, expr_set_of, expr_tuple, expr_neg, expr_abs, expr_binary, expr_chain, expr_min, expr_max, expr_divides, expr_div, expr_mod, expr_card, expr_if, expr_call, expr_let, expr_choose_where, expr_match, exprs_of, match_arm, match_arms_of, holds_always, at_any}
use Rattle.cf_program.specs.Linear.{Held, is_known, is_unknown}
use Rattle.cf_program.specs.LinearTrees.{holds, call_holds}
use Rattle.cf_program.proofs.EditionExamples.{typed}
use Rattle.cf_program.proofs.RuleExamples.{on, param}

-- whether an expression is linear behind these functions, where the scope has so many variables and the choose so many outputs
abbrev is_linear : Bool → List DefTree → List Held → List Held → ExprTree → Bool
is_linear inputs earlier scope outputs e = is_some (holds inputs (call_holds inputs earlier) (scope ++ outputs) e)

-- def main(a: int): (int, int) = choose (x: int, y: int) where x * y == a
product_of_outputs_rel :
    is_linear false [] (is_known ∷ []) (is_unknown ∷ is_unknown ∷ []) (expr_binary (Compare Eq) (expr_binary Mul (expr_var 1) (expr_var 2)) (expr_var 0)) ≡
    false
product_of_outputs_rel = refl

-- def main(a: int): int = choose (x: int) where x * x <= a < (x + 1) * (x + 1)
square_in_a_relation_rel :
    is_linear false [] (is_known ∷ []) (is_unknown ∷ []) (expr_chain (Le ∷ Lt ∷ []) (exprs_of ((expr_binary Mul (expr_var 1) (expr_var 1)) ∷ (expr_var 0) ∷
    (expr_binary Mul (expr_binary Add (expr_var 1) (expr_lit (pos 1))) (expr_binary Add (expr_var 1) (expr_lit (pos 1)))) ∷ []))) ≡ false
square_in_a_relation_rel = refl

-- def main(a: int, b: int): int = choose (x: int) where a * x == b
product_with_an_input_rel :
    is_linear false [] (is_known ∷ is_known ∷ []) (is_unknown ∷ []) (expr_binary (Compare Eq) (expr_binary Mul (expr_var 0) (expr_var 2)) (expr_var 1)) ≡
    false
product_with_an_input_rel = refl

-- def main(a: int, b: int): int = choose (x: int) where x == a * b
product_of_inputs_rel :
    is_linear false [] (is_known ∷ is_known ∷ []) (is_unknown ∷ []) (expr_binary (Compare Eq) (expr_var 2) (expr_binary Mul (expr_var 0) (expr_var 1))) ≡
    false
product_of_inputs_rel = refl

-- def main(a: int, b: int): int = choose (x: int) where a * x == b && x * x == a
product_of_two_unknowns_for_run_rel :
    is_linear true [] (is_known ∷ is_known ∷ []) (is_unknown ∷ []) (expr_binary And (expr_binary (Compare Eq) (expr_binary Mul (expr_var 0) (expr_var 2))
    (expr_var 1)) (expr_binary (Compare Eq) (expr_binary Mul (expr_var 2) (expr_var 2)) (expr_var 0))) ≡ false
product_of_two_unknowns_for_run_rel = refl

-- def main(s: set, n: int): int = choose (x: int) where n * card(s) == x
card_times_an_input_rel :
    is_linear false [] (is_known ∷ is_known ∷ []) (is_unknown ∷ []) (expr_binary (Compare Eq) (expr_binary Mul (expr_var 1) (expr_card (expr_var 0)))
    (expr_var 2)) ≡ false
card_times_an_input_rel = refl

-- def main(a: int): int = choose (x: int) where let y = x + 1 in x * y == a
product_of_two_unknowns_by_let_rel :
    is_linear false [] (is_known ∷ []) (is_unknown ∷ []) (expr_let 1 (expr_binary Add (expr_var 1) (expr_lit (pos 1))) (expr_binary (Compare Eq) (expr_binary
    Mul (expr_var 1) (expr_var 2)) (expr_var 0))) ≡ false
product_of_two_unknowns_by_let_rel = refl

-- def square(x: int): int = x * x
-- def main(a: int): int = choose (x: int) where square(x) == a
product_of_two_unknowns_in_a_call_rel :
    is_linear false (typed (codes "square") (param (on 2 12) (codes "x") Int ∷ []) (Int ∷ []) (expr_binary Mul (expr_var 0) (expr_var 0)) ∷ []) (is_known ∷
    []) (is_unknown ∷ []) (expr_binary (Compare Eq) (expr_call 0 (exprs_of ((expr_var 1) ∷ []))) (expr_var 0)) ≡ false
product_of_two_unknowns_in_a_call_rel = refl

-- def times(x: int, y: int): int = x * y
-- def square(x: int): int = times(x, x)
-- def main(a: int): int = choose (x: int) where square(x) == a
product_in_a_call_of_a_call_rel :
    is_linear false (typed (codes "square") (param (on 3 12) (codes "x") Int ∷ []) (Int ∷ []) (expr_call 0 (exprs_of ((expr_var 0) ∷ (expr_var 0) ∷ []))) ∷
    typed (codes "times") (param (on 2 11) (codes "x") Int ∷ param (on 2 19) (codes "y") Int ∷ []) (Int ∷ []) (expr_binary Mul (expr_var 0) (expr_var 1)) ∷
    []) (is_known ∷ []) (is_unknown ∷ []) (expr_binary (Compare Eq) (expr_call 1 (exprs_of ((expr_var 1) ∷ []))) (expr_var 0)) ≡ false
product_in_a_call_of_a_call_rel = refl

-- def times(x: int, y: int): int = x * y
-- def main(a: int, b: int): int = choose (x: int) where times(a, x) == b
product_with_inputs_in_a_call_rel :
    is_linear false (typed (codes "times") (param (on 2 11) (codes "x") Int ∷ param (on 2 19) (codes "y") Int ∷ []) (Int ∷ []) (expr_binary Mul (expr_var 0)
    (expr_var 1)) ∷ []) (is_known ∷ is_known ∷ []) (is_unknown ∷ []) (expr_binary (Compare Eq) (expr_call 0 (exprs_of ((expr_var 0) ∷ (expr_var 2) ∷ [])))
    (expr_var 1)) ≡ false
product_with_inputs_in_a_call_rel = refl

-- def half(a: int): int = choose (h: int) where 2 * h == a
-- def main(a: int): int = choose (x: int) where x == half(a)
call_that_holds_a_choose_rel :
    is_linear false [] (is_known ∷ []) (is_unknown ∷ []) (expr_binary (Compare Eq) (expr_binary Mul (expr_lit (pos 2)) (expr_var 1)) (expr_var 0)) ≡ true
call_that_holds_a_choose_rel = refl

-- def half(a: int): int = choose (h: int) where 2 * h == a
-- def f(a: int): int = half(a) + 1
-- def main(a: int): int = choose (x: int) where x == f(a)
call_of_a_call_that_holds_a_choose_rel :
    is_linear false [] (is_known ∷ []) (is_unknown ∷ []) (expr_binary (Compare Eq) (expr_binary Mul (expr_lit (pos 2)) (expr_var 1)) (expr_var 0)) ≡ true
call_of_a_call_that_holds_a_choose_rel = refl

-- def main(a: int): int = choose (x: int) where x == (choose (y: int) where y == a)
choose_in_a_relation_rel :
    is_linear false [] (is_known ∷ []) (is_unknown ∷ []) (expr_binary (Compare Eq) (expr_var 1) (expr_choose_where 2 (param (on 2 10) (codes "a") Int ∷ param
    (on 2 33) (codes "x") Int ∷ []) (Int ∷ []) [] holds_always (expr_binary (Compare Eq) (expr_var 2) (expr_var 0)) at_any)) ≡ false
choose_in_a_relation_rel = refl

-- def main(a: int): int = choose (x: int) where x == (match a with { 2 * i then i ; i then 0 })
match_in_a_relation_rel :
    is_linear false [] (is_known ∷ []) (is_unknown ∷ []) (expr_binary (Compare Eq) (expr_var 1) (expr_match 2 (param (on 2 10) (codes "a") Int ∷ param (on 2
    33) (codes "x") Int ∷ param (on 2 53) (codes "match") Int ∷ []) (expr_var 0) (match_arms_of (match_arm 3 ((pos 2) ∷ []) (pos 0) (expr_var 3) ∷ match_arm
    4 ((pos 1) ∷ []) (pos 0) (expr_lit (pos 0)) ∷ [])))) ≡ false
match_in_a_relation_rel = refl

-- def main(s: set): set = choose (t: set) where t subset s && {1} subset t
set_literal_in_a_relation_rel :
    is_linear false [] (is_known ∷ []) (is_unknown ∷ []) (expr_binary And (expr_binary Subset (expr_var 1) (expr_var 0)) (expr_binary Subset (expr_set_of
    (exprs_of ((expr_lit (pos 1)) ∷ []))) (expr_var 1))) ≡ false
set_literal_in_a_relation_rel = refl

-- def one(a: int): set = {a}
-- def main(s: set): set = choose (t: set) where t subset one(3)
set_literal_in_a_call_rel :
    is_linear false (typed (codes "one") (param (on 2 9) (codes "a") Int ∷ []) (Set ∷ []) (expr_set_of (exprs_of ((expr_var 0) ∷ []))) ∷ []) (is_known ∷ [])
    (is_unknown ∷ []) (expr_binary Subset (expr_var 1) (expr_call 0 (exprs_of ((expr_lit (pos 3)) ∷ [])))) ≡ false
set_literal_in_a_call_rel = refl

-- def main(a: int, b: int): int = choose (x: int) given a * b > 0 where x == a
product_of_two_unknowns_in_given_rel :
    is_linear false [] (is_known ∷ is_known ∷ []) (is_unknown ∷ []) (expr_binary (Compare Eq) (expr_var 2) (expr_var 0)) ≡ true
product_of_two_unknowns_in_given_rel = refl

-- def main(a: int, b: int): int = choose (x: int) given a * b > 0 where x == a
product_of_two_unknowns_in_given_given :
    is_linear false [] (is_known ∷ is_known ∷ []) [] (expr_binary (Compare Gt) (expr_binary Mul (expr_var 0) (expr_var 1)) (expr_lit (pos 0))) ≡ false
product_of_two_unknowns_in_given_given = refl

-- def main(a: int): int = choose (x: int) given a == (choose (y: int) where y == 1) where x == a
choose_in_given_rel :
    is_linear false [] (is_known ∷ []) (is_unknown ∷ []) (expr_binary (Compare Eq) (expr_var 1) (expr_var 0)) ≡ true
choose_in_given_rel = refl

-- def main(a: int): int = choose (x: int) given a == (choose (y: int) where y == 1) where x == a
choose_in_given_given :
    is_linear false [] (is_known ∷ []) [] (expr_binary (Compare Eq) (expr_var 0) (expr_choose_where 2 (param (on 2 10) (codes "a") Int ∷ []) (Int ∷ []) []
    holds_always (expr_binary (Compare Eq) (expr_var 1) (expr_lit (pos 1))) at_any)) ≡ false
choose_in_given_given = refl

-- def main(a: int): int = choose (x: int) where x >= a minimise x * x
product_in_minimise_rel :
    is_linear false [] (is_known ∷ []) (is_unknown ∷ []) (expr_binary (Compare Ge) (expr_var 1) (expr_var 0)) ≡ true
product_in_minimise_rel = refl

-- def main(a: int): int = choose (x: int) where x >= a minimise x * x
product_in_minimise_aim :
    is_linear false [] (is_known ∷ []) (is_unknown ∷ []) (expr_binary Mul (expr_var 1) (expr_var 1)) ≡ false
product_in_minimise_aim = refl

-- def main(a: int): int = choose (x: int) where (if x > 0 then x else 1) * x == a
test_of_if_as_a_factor_rel :
    is_linear false [] (is_known ∷ []) (is_unknown ∷ []) (expr_binary (Compare Eq) (expr_binary Mul (expr_if (expr_binary (Compare Gt) (expr_var 1) (expr_lit
    (pos 0))) (expr_var 1) (expr_lit (pos 1))) (expr_var 1)) (expr_var 0)) ≡ false
test_of_if_as_a_factor_rel = refl

-- def main(a: int, b: int): int = choose (x: int) given a * b > 0 where x == a
product_with_inputs_in_given_for_run_rel :
    is_linear true [] (is_known ∷ is_known ∷ []) (is_unknown ∷ []) (expr_binary (Compare Eq) (expr_var 2) (expr_var 0)) ≡ true
product_with_inputs_in_given_for_run_rel = refl

-- def main(a: int, b: int): int = choose (x: int) given a * b > 0 where x == a
product_with_inputs_in_given_for_run_given :
    is_linear false [] (is_known ∷ is_known ∷ []) [] (expr_binary (Compare Gt) (expr_binary Mul (expr_var 0) (expr_var 1)) (expr_lit (pos 0))) ≡ false
product_with_inputs_in_given_for_run_given = refl

-- const K = 3
-- const N = -K * 2 + mod(abs(1 - 9), K) - div(7, 2) + min(4, 2, 9) - max(1, 5, 3)
-- def f(x: int, p: bool): (int, bool) = (max(x, K, N), p ==> x <= K < 9)
-- def main(a: int, s: set): (int, bool) = choose (x: int, q: bool; t: set) given K divides a where q == (0 <= x < card(t)) && (t subset s) minimise (x, card(t))
all_new_forms_rel :
    is_linear false (typed (codes "f") (param (on 4 7) (codes "x") Int ∷ param (on 4 15) (codes "p") Truth ∷ []) (Int ∷ Truth ∷ []) (expr_tuple (exprs_of
    ((expr_max (exprs_of ((expr_var 0) ∷ (expr_lit (pos 3)) ∷ (expr_lit (negsuc 9)) ∷ []))) ∷ (expr_binary Implies (expr_var 1) (expr_chain (Le ∷ Lt ∷ [])
    (exprs_of ((expr_var 0) ∷ (expr_lit (pos 3)) ∷ (expr_lit (pos 9)) ∷ [])))) ∷ []))) ∷ []) (is_known ∷ is_known ∷ []) (is_unknown ∷ is_unknown ∷ is_unknown
    ∷ []) (expr_binary And (expr_binary (Compare Eq) (expr_var 3) (expr_chain (Le ∷ Lt ∷ []) (exprs_of ((expr_lit (pos 0)) ∷ (expr_var 2) ∷ (expr_card
    (expr_var 4)) ∷ [])))) (expr_binary Subset (expr_var 4) (expr_var 1))) ≡ true
all_new_forms_rel = refl

-- const K = 3
-- const N = -K * 2 + mod(abs(1 - 9), K) - div(7, 2) + min(4, 2, 9) - max(1, 5, 3)
-- def f(x: int, p: bool): (int, bool) = (max(x, K, N), p ==> x <= K < 9)
-- def main(a: int, s: set): (int, bool) = choose (x: int, q: bool; t: set) given K divides a where q == (0 <= x < card(t)) && (t subset s) minimise (x, card(t))
all_new_forms_given :
    is_linear false (typed (codes "f") (param (on 4 7) (codes "x") Int ∷ param (on 4 15) (codes "p") Truth ∷ []) (Int ∷ Truth ∷ []) (expr_tuple (exprs_of
    ((expr_max (exprs_of ((expr_var 0) ∷ (expr_lit (pos 3)) ∷ (expr_lit (negsuc 9)) ∷ []))) ∷ (expr_binary Implies (expr_var 1) (expr_chain (Le ∷ Lt ∷ [])
    (exprs_of ((expr_var 0) ∷ (expr_lit (pos 3)) ∷ (expr_lit (pos 9)) ∷ [])))) ∷ []))) ∷ []) (is_known ∷ is_known ∷ []) [] (expr_divides (pos 3) (expr_var
    0)) ≡ true
all_new_forms_given = refl

-- const K = 3
-- const N = -K * 2 + mod(abs(1 - 9), K) - div(7, 2) + min(4, 2, 9) - max(1, 5, 3)
-- def f(x: int, p: bool): (int, bool) = (max(x, K, N), p ==> x <= K < 9)
-- def main(a: int, s: set): (int, bool) = choose (x: int, q: bool; t: set) given K divides a where q == (0 <= x < card(t)) && (t subset s) minimise (x, card(t))
all_new_forms_aim :
    is_linear false (typed (codes "f") (param (on 4 7) (codes "x") Int ∷ param (on 4 15) (codes "p") Truth ∷ []) (Int ∷ Truth ∷ []) (expr_tuple (exprs_of
    ((expr_max (exprs_of ((expr_var 0) ∷ (expr_lit (pos 3)) ∷ (expr_lit (negsuc 9)) ∷ []))) ∷ (expr_binary Implies (expr_var 1) (expr_chain (Le ∷ Lt ∷ [])
    (exprs_of ((expr_var 0) ∷ (expr_lit (pos 3)) ∷ (expr_lit (pos 9)) ∷ [])))) ∷ []))) ∷ []) (is_known ∷ is_known ∷ []) (is_unknown ∷ is_unknown ∷ is_unknown
    ∷ []) (expr_tuple (exprs_of ((expr_var 2) ∷ (expr_card (expr_var 4)) ∷ []))) ≡ true
all_new_forms_aim = refl

-- def main(a: int): (int, bool) = (choose (x: int) where x <= a maximise x, true)
greatest_and_plain_rel :
    is_linear false [] (is_known ∷ []) (is_unknown ∷ []) (expr_binary (Compare Le) (expr_var 1) (expr_var 0)) ≡ true
greatest_and_plain_rel = refl

-- def main(a: int): (int, bool) = (choose (x: int) where x <= a maximise x, true)
greatest_and_plain_aim :
    is_linear false [] (is_known ∷ []) (is_unknown ∷ []) (expr_var 1) ≡ true
greatest_and_plain_aim = refl

-- def main(a: int, b: int): int = choose (x: int) where a * x == b minimise b * x
a_late_choose_rel :
    is_linear true [] (is_known ∷ is_known ∷ []) (is_unknown ∷ []) (expr_binary (Compare Eq) (expr_binary Mul (expr_var 0) (expr_var 2)) (expr_var 1)) ≡ true
a_late_choose_rel = refl

-- def main(a: int, b: int): int = choose (x: int) where a * x == b minimise b * x
a_late_choose_aim :
    is_linear true [] (is_known ∷ is_known ∷ []) (is_unknown ∷ []) (expr_binary Mul (expr_var 1) (expr_var 2)) ≡ true
a_late_choose_aim = refl

-- def main(a: int, b: int): int = choose (x: int) given a * b > 0 where a * x == b
a_given_is_never_late_rel :
    is_linear true [] (is_known ∷ is_known ∷ []) (is_unknown ∷ []) (expr_binary (Compare Eq) (expr_binary Mul (expr_var 0) (expr_var 2)) (expr_var 1)) ≡ true
a_given_is_never_late_rel = refl

-- def main(a: int, b: int): int = choose (x: int) given a * b > 0 where a * x == b
a_given_is_never_late_given :
    is_linear false [] (is_known ∷ is_known ∷ []) [] (expr_binary (Compare Gt) (expr_binary Mul (expr_var 0) (expr_var 1)) (expr_lit (pos 0))) ≡ false
a_given_is_never_late_given = refl

-- def main(a: int, b: int): int = choose (x: int) where x == b minimise a * x
an_aim_is_linear_too_rel :
    is_linear false [] (is_known ∷ is_known ∷ []) (is_unknown ∷ []) (expr_binary (Compare Eq) (expr_var 2) (expr_var 1)) ≡ true
an_aim_is_linear_too_rel = refl

-- def main(a: int, b: int): int = choose (x: int) where x == b minimise a * x
an_aim_is_linear_too_aim :
    is_linear false [] (is_known ∷ is_known ∷ []) (is_unknown ∷ []) (expr_binary Mul (expr_var 0) (expr_var 2)) ≡ false
an_aim_is_linear_too_aim = refl

-- def main(a: int): (int, int, int) = (choose (x: int) where x == a, match a with { 2 * i then choose (y: int) where y == i ; i then i ; 3 then 4 }, choose (z: int) where z == a)
numbers_of_chooses_rel :
    is_linear false [] (is_known ∷ []) (is_unknown ∷ []) (expr_binary (Compare Eq) (expr_var 1) (expr_var 0)) ≡ true
numbers_of_chooses_rel = refl

-- def main(a: int): bool = choose (p: bool; x: int, y: int) where p && x < y minimise y
hidden_outputs_stand_behind_in_the_scope_rel :
    is_linear false [] (is_known ∷ []) (is_unknown ∷ is_unknown ∷ is_unknown ∷ []) (expr_binary And (expr_var 1) (expr_binary (Compare Lt) (expr_var 2)
    (expr_var 3))) ≡ true
hidden_outputs_stand_behind_in_the_scope_rel = refl

-- def main(a: int): bool = choose (p: bool; x: int, y: int) where p && x < y minimise y
hidden_outputs_stand_behind_in_the_scope_aim :
    is_linear false [] (is_known ∷ []) (is_unknown ∷ is_unknown ∷ is_unknown ∷ []) (expr_var 3) ≡ true
hidden_outputs_stand_behind_in_the_scope_aim = refl

-- const Z = 0
-- def main(a: int): int = choose (x: int) where Z * x == 0
a_constant_factor_that_is_zero_rel :
    is_linear false [] (is_known ∷ []) (is_unknown ∷ []) (expr_binary (Compare Eq) (expr_binary Mul (expr_lit (pos 0)) (expr_var 1)) (expr_lit (pos 0))) ≡
    true
a_constant_factor_that_is_zero_rel = refl

-- def times(k: int, x: int): int = k * x
-- def main(a: int): int = choose (x: int) where times(3, x) == a
a_call_with_a_constant_factor_rel :
    is_linear false (typed (codes "times") (param (on 2 11) (codes "k") Int ∷ param (on 2 19) (codes "x") Int ∷ []) (Int ∷ []) (expr_binary Mul (expr_var 0)
    (expr_var 1)) ∷ []) (is_known ∷ []) (is_unknown ∷ []) (expr_binary (Compare Eq) (expr_call 0 (exprs_of ((expr_lit (pos 3)) ∷ (expr_var 1) ∷ [])))
    (expr_var 0)) ≡ true
a_call_with_a_constant_factor_rel = refl

-- def main(a: int): int = choose (x: int) where (if x > 0 then 2 else 3) * x == a
an_if_as_a_factor_rel :
    is_linear false [] (is_known ∷ []) (is_unknown ∷ []) (expr_binary (Compare Eq) (expr_binary Mul (expr_if (expr_binary (Compare Gt) (expr_var 1) (expr_lit
    (pos 0))) (expr_lit (pos 2)) (expr_lit (pos 3))) (expr_var 1)) (expr_var 0)) ≡ true
an_if_as_a_factor_rel = refl

-- def main(a: int): int = choose (x: int) where let k = 3 in k * x == a
a_let_as_a_factor_rel :
    is_linear false [] (is_known ∷ []) (is_unknown ∷ []) (expr_let 1 (expr_lit (pos 3)) (expr_binary (Compare Eq) (expr_binary Mul (expr_var 2) (expr_var 1))
    (expr_var 0))) ≡ true
a_let_as_a_factor_rel = refl

-- def main(a: int): int = choose (x: int) where let (k, y) = (3, x) in k * y == a
a_tuple_of_a_let_as_a_factor_rel :
    is_linear false [] (is_known ∷ []) (is_unknown ∷ []) (expr_let 2 (expr_tuple (exprs_of ((expr_lit (pos 3)) ∷ (expr_var 1) ∷ []))) (expr_binary (Compare
    Eq) (expr_binary Mul (expr_var 2) (expr_var 3)) (expr_var 0))) ≡ true
a_tuple_of_a_let_as_a_factor_rel = refl

-- def main(a: int): int = choose (x: int) where let (k, y) = (3, x) in y * y == a
the_other_part_of_a_tuple_as_a_factor_rel :
    is_linear false [] (is_known ∷ []) (is_unknown ∷ []) (expr_let 2 (expr_tuple (exprs_of ((expr_lit (pos 3)) ∷ (expr_var 1) ∷ []))) (expr_binary (Compare
    Eq) (expr_binary Mul (expr_var 3) (expr_var 3)) (expr_var 0))) ≡ false
the_other_part_of_a_tuple_as_a_factor_rel = refl

-- def main(a: int): int = choose (x: int) where div(6, 2) * x == a
a_quotient_is_no_factor_rel :
    is_linear false [] (is_known ∷ []) (is_unknown ∷ []) (expr_binary (Compare Eq) (expr_binary Mul (expr_div (expr_lit (pos 6)) (pos 2)) (expr_var 1))
    (expr_var 0)) ≡ false
a_quotient_is_no_factor_rel = refl

-- def main(a: int): int = choose (x: int) where div(6, 2) * a == x
a_quotient_times_an_input_rel :
    is_linear false [] (is_known ∷ []) (is_unknown ∷ []) (expr_binary (Compare Eq) (expr_binary Mul (expr_div (expr_lit (pos 6)) (pos 2)) (expr_var 0))
    (expr_var 1)) ≡ false
a_quotient_times_an_input_rel = refl

-- def main(a: int): int = choose (x: int) where x == (choose (y: int) where y * y == a)
an_inner_choose_is_checked_first_rel :
    is_linear false [] (is_known ∷ []) (is_unknown ∷ []) (expr_binary (Compare Eq) (expr_var 1) (expr_choose_where 2 (param (on 2 10) (codes "a") Int ∷ param
    (on 2 33) (codes "x") Int ∷ []) (Int ∷ []) [] holds_always (expr_binary (Compare Eq) (expr_binary Mul (expr_var 2) (expr_var 2)) (expr_var 0)) at_any)) ≡
    false
an_inner_choose_is_checked_first_rel = refl

-- def main(a: int): int = choose (x: int) where x == (choose (y: int) where y * y == a)
an_inner_choose_is_checked_first_rel_1 :
    is_linear false [] (is_known ∷ is_known ∷ []) (is_unknown ∷ []) (expr_binary (Compare Eq) (expr_binary Mul (expr_var 2) (expr_var 2)) (expr_var 0)) ≡
    false
an_inner_choose_is_checked_first_rel_1 = refl

-- def times(x: int, y: int): int = x * y
-- def f(x: int, y: int): int = times(y, 2) + times(x, x)
-- def main(a: int, b: int): int = choose (x: int) where f(a, x) == b
a_call_of_a_call_with_inputs_rel :
    is_linear false (typed (codes "f") (param (on 3 7) (codes "x") Int ∷ param (on 3 15) (codes "y") Int ∷ []) (Int ∷ []) (expr_binary Add (expr_call 0
    (exprs_of ((expr_var 1) ∷ (expr_lit (pos 2)) ∷ []))) (expr_call 0 (exprs_of ((expr_var 0) ∷ (expr_var 0) ∷ [])))) ∷ typed (codes "times") (param (on 2
    11) (codes "x") Int ∷ param (on 2 19) (codes "y") Int ∷ []) (Int ∷ []) (expr_binary Mul (expr_var 0) (expr_var 1)) ∷ []) (is_known ∷ is_known ∷ [])
    (is_unknown ∷ []) (expr_binary (Compare Eq) (expr_call 1 (exprs_of ((expr_var 0) ∷ (expr_var 2) ∷ []))) (expr_var 1)) ≡ false
a_call_of_a_call_with_inputs_rel = refl

-- def main(a: int): int = choose (x: int) where let x = 2 in x * x == a
a_shadowed_output_is_known_rel :
    is_linear false [] (is_known ∷ []) (is_unknown ∷ []) (expr_let 1 (expr_lit (pos 2)) (expr_binary (Compare Eq) (expr_binary Mul (expr_var 2) (expr_var 2))
    (expr_var 0))) ≡ true
a_shadowed_output_is_known_rel = refl

-- def main(a: int): int = choose (x: int) where min(a, 2) * x == a
min_of_known_is_known_rel :
    is_linear false [] (is_known ∷ []) (is_unknown ∷ []) (expr_binary (Compare Eq) (expr_binary Mul (expr_min (exprs_of ((expr_var 0) ∷ (expr_lit (pos 2)) ∷
    []))) (expr_var 1)) (expr_var 0)) ≡ false
min_of_known_is_known_rel = refl

-- def main(s: set, n: int): int = choose (x: int) where card(s) * x == n
card_is_unknown_rel :
    is_linear false [] (is_known ∷ is_known ∷ []) (is_unknown ∷ []) (expr_binary (Compare Eq) (expr_binary Mul (expr_card (expr_var 0)) (expr_var 2))
    (expr_var 1)) ≡ false
card_is_unknown_rel = refl

-- def main(n: int): int = choose (x: int) where mod(n, 2) * x == n
mod_is_unknown_rel :
    is_linear false [] (is_known ∷ []) (is_unknown ∷ []) (expr_binary (Compare Eq) (expr_binary Mul (expr_mod (expr_var 0) (pos 2)) (expr_var 1)) (expr_var
    0)) ≡ false
mod_is_unknown_rel = refl

-- def main(a: int): int = choose (x: int) where max(1, 2) * x + min(3, 4) * x + (-2) * x + abs(3) * x == a
forms_of_constants_are_constant_rel :
    is_linear false [] (is_known ∷ []) (is_unknown ∷ []) (expr_binary (Compare Eq) (expr_binary Add (expr_binary Add (expr_binary Add (expr_binary Mul
    (expr_max (exprs_of ((expr_lit (pos 1)) ∷ (expr_lit (pos 2)) ∷ []))) (expr_var 1)) (expr_binary Mul (expr_min (exprs_of ((expr_lit (pos 3)) ∷ (expr_lit
    (pos 4)) ∷ []))) (expr_var 1))) (expr_binary Mul (expr_neg (expr_lit (pos 2))) (expr_var 1))) (expr_binary Mul (expr_abs (expr_lit (pos 3))) (expr_var
    1))) (expr_var 0)) ≡ true
forms_of_constants_are_constant_rel = refl

-- def main(a: int): int = choose (x: int) where max(a, 2) * x == a
max_of_known_is_known_rel :
    is_linear false [] (is_known ∷ []) (is_unknown ∷ []) (expr_binary (Compare Eq) (expr_binary Mul (expr_max (exprs_of ((expr_var 0) ∷ (expr_lit (pos 2)) ∷
    []))) (expr_var 1)) (expr_var 0)) ≡ false
max_of_known_is_known_rel = refl

-- def main(a: int): int = choose (x: int) where x * a == 1
an_input_on_the_right_rel :
    is_linear false [] (is_known ∷ []) (is_unknown ∷ []) (expr_binary (Compare Eq) (expr_binary Mul (expr_var 1) (expr_var 0)) (expr_lit (pos 1))) ≡ false
an_input_on_the_right_rel = refl

-- def main(a: int): int = choose (x: int) given {1} == {} where x == a
a_set_literal_in_given_rel :
    is_linear false [] (is_known ∷ []) (is_unknown ∷ []) (expr_binary (Compare Eq) (expr_var 1) (expr_var 0)) ≡ true
a_set_literal_in_given_rel = refl

-- def main(a: int): int = choose (x: int) given {1} == {} where x == a
a_set_literal_in_given_given :
    is_linear false [] (is_known ∷ []) [] (expr_binary (Compare Eq) (expr_set_of (exprs_of ((expr_lit (pos 1)) ∷ []))) (expr_set_of (exprs_of []))) ≡ false
a_set_literal_in_given_given = refl

-- def main(a: int): int = choose (x: int) where x == a minimise match x with { i then i }
a_match_in_an_objective_rel :
    is_linear false [] (is_known ∷ []) (is_unknown ∷ []) (expr_binary (Compare Eq) (expr_var 1) (expr_var 0)) ≡ true
a_match_in_an_objective_rel = refl

-- def main(a: int): int = choose (x: int) where x == a minimise match x with { i then i }
a_match_in_an_objective_aim :
    is_linear false [] (is_known ∷ []) (is_unknown ∷ []) (expr_match 2 (param (on 2 10) (codes "a") Int ∷ param (on 2 33) (codes "x") Int ∷ param (on 2 63)
    (codes "match") Int ∷ []) (expr_var 1) (match_arms_of (match_arm 3 ((pos 1) ∷ []) (pos 0) (expr_var 3) ∷ []))) ≡ false
a_match_in_an_objective_aim = refl

-- def times(x: int, y: int): int = x * y
-- def main(a: int, b: int): int = choose (x: int) given times(a, b) > 0 where x == a
inputs_in_a_call_of_given_rel :
    is_linear false (typed (codes "times") (param (on 2 11) (codes "x") Int ∷ param (on 2 19) (codes "y") Int ∷ []) (Int ∷ []) (expr_binary Mul (expr_var 0)
    (expr_var 1)) ∷ []) (is_known ∷ is_known ∷ []) (is_unknown ∷ []) (expr_binary (Compare Eq) (expr_var 2) (expr_var 0)) ≡ true
inputs_in_a_call_of_given_rel = refl

-- def times(x: int, y: int): int = x * y
-- def main(a: int, b: int): int = choose (x: int) given times(a, b) > 0 where x == a
inputs_in_a_call_of_given_given :
    is_linear false (typed (codes "times") (param (on 2 11) (codes "x") Int ∷ param (on 2 19) (codes "y") Int ∷ []) (Int ∷ []) (expr_binary Mul (expr_var 0)
    (expr_var 1)) ∷ []) (is_known ∷ is_known ∷ []) [] (expr_binary (Compare Gt) (expr_call 0 (exprs_of ((expr_var 0) ∷ (expr_var 1) ∷ []))) (expr_lit (pos
    0))) ≡ false
inputs_in_a_call_of_given_given = refl

-- def rematch(x: int, y: int): int = 2 * x * y
-- def main(a: int): int = choose (x: int) where rematch(x, 2) == a
a_name_like_a_cause_rel :
    is_linear false (typed (codes "rematch") (param (on 2 13) (codes "x") Int ∷ param (on 2 21) (codes "y") Int ∷ []) (Int ∷ []) (expr_binary Mul
    (expr_binary Mul (expr_lit (pos 2)) (expr_var 0)) (expr_var 1)) ∷ []) (is_known ∷ []) (is_unknown ∷ []) (expr_binary (Compare Eq) (expr_call 0 (exprs_of
    ((expr_var 1) ∷ (expr_lit (pos 2)) ∷ []))) (expr_var 0)) ≡ true
a_name_like_a_cause_rel = refl
