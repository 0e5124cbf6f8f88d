-- Worked examples of late programs: a product may have a side of numbers in scope.
--
-- Above each example stands its source.
use Rattle.std.proofs.Common.{pos, ◌≡◌, Bool, true, List, [], ◌∷◌, codes, Ok, Err, is_ok, refl}
use Rattle.cf_num.specs.Divisors.{gcd_by}
use Rattle.cf_tree.specs.declared.base.Base.TheVariants.{Int, Set}
use Rattle.cf_tree.specs.declared.base.Order.TheVariants.{Eq, Lt, Gt}
use Rattle.cf_tree.specs.declared.raw.BinOp.TheVariants.{Add, Sub, Mul, And, Or, Compare}
use Rattle.cf_tree.specs.DefView.{RawDefTree}
use Rattle.cf_tree.specs.ExprTree.{expr_choose}
use Rattle.cf_tree.specs.RawTree.{raw_lit, raw_truth, raw_name, raw_set_of, raw_group, raw_tuple, raw_neg, raw_not, raw_abs, raw_binary, raw_card, raw_call, raw_if, raw_let, raw_match, raws_of, raw_arm, raw_arms_of}
use Rattle.cf_tree.specs.RelTree.{RelTree, term_lit, term_var, term_mul, rel_compare}
use Rattle.cf_program.specs.declared.fault.TypeFault.TheVariants.{UnknownName, Mismatch, NotLinear}
use Rattle.cf_program.specs.declared.linearity.Linearity.TheVariants.{Plain, Late}
use Rattle.cf_program.specs.LateLinear.{IsLinearBy}
use Rattle.cf_program.proofs.PlainForms.{raw_divides, raw_div, raw_mod, raw_choose, part, checked, checked_late}
use Rattle.cf_program.proofs.RuleExamples.{at, on, param, def}

abbrev is_accepted : List RawDefTree → Bool
is_accepted ds = is_ok (checked_late ds)

-- def main(a: int, b: int): int = choose (x: int) where a * x == b
abbrev quotient : List RawDefTree
quotient = (def (at 1) (codes "main") (param (at 10) (codes "a") Int ∷ param (at 18) (codes "b") Int ∷ []) (Int ∷ [])
    (raw_choose (at 33) (param (at 41) (codes "x") Int ∷ [])
    (raw_binary (at 61) (Compare Eq) (raw_binary (at 57) Mul (raw_name (at 55) (codes "a")) (raw_name (at 59) (codes "x"))) (raw_name (at 64) (codes "b")))) ∷
    [])

quotient_is_not_plain : checked quotient ≡ Err (NotLinear (at 57))
quotient_is_not_plain = refl

quotient_is_late :
    checked_late quotient
    ≡ Ok (record {
      defs = record {
        name = codes "main";
        params = param (at 10) (codes "a") Int ∷ param (at 18) (codes "b") Int ∷ [];
        results = Int ∷ [];
        body =
            expr_choose 1 (param (at 10) (codes "a") Int ∷ param (at 18) (codes "b") Int ∷ []) (Int ∷ [])
            (rel_compare Eq (term_mul (term_var 0) (term_var 2)) (term_var 1));
      } ∷ [];
      main = 0;
    })
quotient_is_late = refl

-- each of the two rules has its own first form that is not linear
--
-- def main(a: int): (int, int) = choose (x: int, y: int) where a * x == a && x * y == 3
abbrev two_products : List RawDefTree
two_products = (def (at 1) (codes "main") (param (at 10) (codes "a") Int ∷ []) (Int ∷ Int ∷ [])
    (raw_choose (at 32) (param (at 40) (codes "x") Int ∷ param (at 48) (codes "y") Int ∷ [])
    (raw_binary (at 73) And (raw_binary (at 68) (Compare Eq) (raw_binary (at 64) Mul (raw_name (at 62) (codes "a")) (raw_name (at 66) (codes "x")))
    (raw_name (at 71) (codes "a"))) (raw_binary (at 82) (Compare Eq) (raw_binary (at 78) Mul (raw_name (at 76) (codes "x")) (raw_name (at 80) (codes "y")))
    (raw_lit (at 85) (pos 3))))) ∷ [])

first_by_each_rule : (checked two_products ≡ Err (NotLinear (at 64))) × (checked_late two_products ≡ Err (NotLinear (at 78)))
first_by_each_rule = (refl, refl)

-- and what follows a late choose may break another rule first
--
-- def main(a: int): int = choose (x: int) where a * x == a
-- def g(b: int): int = c
abbrev unknown_later : List RawDefTree
unknown_later = (def (at 1) (codes "main") (param (at 10) (codes "a") Int ∷ []) (Int ∷ [])
    (raw_choose (at 25) (param (at 33) (codes "x") Int ∷ [])
    (raw_binary (at 53) (Compare Eq) (raw_binary (at 49) Mul (raw_name (at 47) (codes "a")) (raw_name (at 51) (codes "x"))) (raw_name (at 56) (codes "a")))) ∷
    def (on 2 1) (codes "g") (param (on 2 7) (codes "b") Int ∷ []) (Int ∷ []) (raw_name (on 2 22) (codes "c")) ∷ [])

other_rule_first : (checked unknown_later ≡ Err (NotLinear (at 49))) × (checked_late unknown_later ≡ Err (UnknownName (on 2 22)))
other_rule_first = (refl, refl)

-- ---- a product has a side of literals and of numbers in scope, on the left or on the right
-- def main(a: int, b: int): int = choose (x: int) where b * x == a
last_of_the_scope :
    is_accepted (def (at 1) (codes "main") (param (at 10) (codes "a") Int ∷ param (at 18) (codes "b") Int ∷ []) (Int ∷ [])
    (raw_choose (at 33) (param (at 41) (codes "x") Int ∷ [])
    (raw_binary (at 61) (Compare Eq) (raw_binary (at 57) Mul (raw_name (at 55) (codes "b")) (raw_name (at 59) (codes "x"))) (raw_name (at 64) (codes "a"))))
    ∷ [])
    ≡ true
last_of_the_scope = refl

-- def main(a: int): int = choose (x: int) where x * a == a
factor_on_the_right :
    is_accepted (def (at 1) (codes "main") (param (at 10) (codes "a") Int ∷ []) (Int ∷ [])
    (raw_choose (at 25) (param (at 33) (codes "x") Int ∷ [])
    (raw_binary (at 53) (Compare Eq) (raw_binary (at 49) Mul (raw_name (at 47) (codes "x")) (raw_name (at 51) (codes "a"))) (raw_name (at 56) (codes "a"))))
    ∷ [])
    ≡ true
factor_on_the_right = refl

-- def main(a: int, b: int): int = choose (x: int) where (a - 2 * -b + abs(b)) * x == a
sum_as_a_factor :
    is_accepted (def (at 1) (codes "main") (param (at 10) (codes "a") Int ∷ param (at 18) (codes "b") Int ∷ []) (Int ∷ [])
    (raw_choose (at 33) (param (at 41) (codes "x") Int ∷ [])
    (raw_binary (at 81) (Compare Eq) (raw_binary (at 77) Mul
    (raw_group (at 55) (raw_binary (at 67) Add
    (raw_binary (at 58) Sub (raw_name (at 56) (codes "a"))
    (raw_binary (at 62) Mul (raw_lit (at 60) (pos 2)) (raw_neg (at 64) (raw_name (at 65) (codes "b"))))) (raw_abs (at 69) (raw_name (at 73) (codes "b")))))
    (raw_name (at 79) (codes "x"))) (raw_name (at 84) (codes "a")))) ∷ [])
    ≡ true
sum_as_a_factor = refl

-- def main(a: int, b: int): int = choose (x: int) where x == a * b
two_of_the_scope :
    is_accepted (def (at 1) (codes "main") (param (at 10) (codes "a") Int ∷ param (at 18) (codes "b") Int ∷ []) (Int ∷ [])
    (raw_choose (at 33) (param (at 41) (codes "x") Int ∷ [])
    (raw_binary (at 57) (Compare Eq) (raw_name (at 55) (codes "x")) (raw_binary (at 62) Mul (raw_name (at 60) (codes "a")) (raw_name (at 64) (codes "b")))))
    ∷ [])
    ≡ true
two_of_the_scope = refl

-- def main(a: int): int = let b = a in choose (x: int) where b * x == a
variable_of_a_let :
    is_accepted (def (at 1) (codes "main") (param (at 10) (codes "a") Int ∷ []) (Int ∷ [])
    (raw_let (at 25) ((codes "b") ∷ []) ((at 29) ∷ []) (raw_name (at 33) (codes "a"))
    (raw_choose (at 38) (param (at 46) (codes "x") Int ∷ [])
    (raw_binary (at 66) (Compare Eq) (raw_binary (at 62) Mul (raw_name (at 60) (codes "b")) (raw_name (at 64) (codes "x")))
    (raw_name (at 69) (codes "a"))))) ∷ [])
    ≡ true
variable_of_a_let = refl

-- def main(a: int): int = match a with { i then choose (x: int) where i * x == a }
variable_of_a_pattern :
    is_accepted (def (at 1) (codes "main") (param (at 10) (codes "a") Int ∷ []) (Int ∷ [])
    (raw_match (at 25) (raw_name (at 31) (codes "a"))
    (raw_arms_of (raw_arm (part (at 40) (pos 1) (codes "i") ∷ []) (pos 0)
    (raw_choose (at 47) (param (at 55) (codes "x") Int ∷ [])
    (raw_binary (at 75) (Compare Eq) (raw_binary (at 71) Mul (raw_name (at 69) (codes "i")) (raw_name (at 73) (codes "x"))) (raw_name (at 78) (codes "a"))))
    ∷ []))) ∷ [])
    ≡ true
unfolding gcd_by
variable_of_a_pattern = refl

-- ---- outputs, cards, quotients and remainders are no such side, nor are variables that the relation binds
-- def main(a: int): (int, int) = choose (x: int, y: int) where x * y == a
two_outputs :
    checked_late (def (at 1) (codes "main") (param (at 10) (codes "a") Int ∷ []) (Int ∷ Int ∷ [])
    (raw_choose (at 32) (param (at 40) (codes "x") Int ∷ param (at 48) (codes "y") Int ∷ [])
    (raw_binary (at 68) (Compare Eq) (raw_binary (at 64) Mul (raw_name (at 62) (codes "x")) (raw_name (at 66) (codes "y"))) (raw_name (at 71) (codes "a"))))
    ∷ [])
    ≡ Err (NotLinear (at 64))
two_outputs = refl

-- def main(a: int): int = choose (x: int) where x * x == a
square_of_the_output :
    checked_late (def (at 1) (codes "main") (param (at 10) (codes "a") Int ∷ []) (Int ∷ [])
    (raw_choose (at 25) (param (at 33) (codes "x") Int ∷ [])
    (raw_binary (at 53) (Compare Eq) (raw_binary (at 49) Mul (raw_name (at 47) (codes "x")) (raw_name (at 51) (codes "x"))) (raw_name (at 56) (codes "a"))))
    ∷ [])
    ≡ Err (NotLinear (at 49))
square_of_the_output = refl

-- def main(a: int): int = choose (x: int) where (a + x) * x == a
factor_with_an_output :
    checked_late (def (at 1) (codes "main") (param (at 10) (codes "a") Int ∷ []) (Int ∷ [])
    (raw_choose (at 25) (param (at 33) (codes "x") Int ∷ [])
    (raw_binary (at 59) (Compare Eq) (raw_binary (at 55) Mul
    (raw_group (at 47) (raw_binary (at 50) Add (raw_name (at 48) (codes "a")) (raw_name (at 52) (codes "x")))) (raw_name (at 57) (codes "x")))
    (raw_name (at 62) (codes "a")))) ∷ [])
    ≡ Err (NotLinear (at 55))
factor_with_an_output = refl

-- def main(a: int, s: set): int = choose (x: int) where card(s) * x == a
card_as_a_factor :
    checked_late (def (at 1) (codes "main") (param (at 10) (codes "a") Int ∷ param (at 18) (codes "s") Set ∷ []) (Int ∷ [])
    (raw_choose (at 33) (param (at 41) (codes "x") Int ∷ [])
    (raw_binary (at 67) (Compare Eq) (raw_binary (at 63) Mul (raw_card (at 55) (raw_name (at 60) (codes "s"))) (raw_name (at 65) (codes "x")))
    (raw_name (at 70) (codes "a")))) ∷ [])
    ≡ Err (NotLinear (at 63))
card_as_a_factor = refl

-- def main(a: int): int = choose (x: int) where div(a, 2) * x == a
quotient_as_a_factor :
    checked_late (def (at 1) (codes "main") (param (at 10) (codes "a") Int ∷ []) (Int ∷ [])
    (raw_choose (at 25) (param (at 33) (codes "x") Int ∷ [])
    (raw_binary (at 61) (Compare Eq) (raw_binary (at 57) Mul (raw_div (at 47) (raw_name (at 51) (codes "a")) (pos 2)) (raw_name (at 59) (codes "x")))
    (raw_name (at 64) (codes "a")))) ∷ [])
    ≡ Err (NotLinear (at 57))
quotient_as_a_factor = refl

-- def main(a: int): int = choose (x: int) where mod(a, 2) * x == a
remainder_as_a_factor :
    checked_late (def (at 1) (codes "main") (param (at 10) (codes "a") Int ∷ []) (Int ∷ [])
    (raw_choose (at 25) (param (at 33) (codes "x") Int ∷ [])
    (raw_binary (at 61) (Compare Eq) (raw_binary (at 57) Mul (raw_mod (at 47) (raw_name (at 51) (codes "a")) (pos 2)) (raw_name (at 59) (codes "x")))
    (raw_name (at 64) (codes "a")))) ∷ [])
    ≡ Err (NotLinear (at 57))
remainder_as_a_factor = refl

-- def main(a: int): int = choose (x: int) where (let y = a in y * x == a)
variable_of_the_relation :
    checked_late (def (at 1) (codes "main") (param (at 10) (codes "a") Int ∷ []) (Int ∷ [])
    (raw_choose (at 25) (param (at 33) (codes "x") Int ∷ [])
    (raw_group (at 47) (raw_let (at 48) ((codes "y") ∷ []) ((at 52) ∷ []) (raw_name (at 56) (codes "a"))
    (raw_binary (at 67) (Compare Eq) (raw_binary (at 63) Mul (raw_name (at 61) (codes "y")) (raw_name (at 65) (codes "x")))
    (raw_name (at 70) (codes "a")))))) ∷ [])
    ≡ Err (NotLinear (at 63))
variable_of_the_relation = refl

-- ---- a choose is late in every form around it
-- def main(a: int): int = -(choose (x: int) where a * x == a)
late_in_neg :
    is_accepted (def (at 1) (codes "main") (param (at 10) (codes "a") Int ∷ []) (Int ∷ [])
    (raw_neg (at 25) (raw_group (at 26) (raw_choose (at 27) (param (at 35) (codes "x") Int ∷ [])
    (raw_binary (at 55) (Compare Eq) (raw_binary (at 51) Mul (raw_name (at 49) (codes "a")) (raw_name (at 53) (codes "x")))
    (raw_name (at 58) (codes "a")))))) ∷ [])
    ≡ true
late_in_neg = refl

-- def main(a: int): int = if !(2 divides (choose (x: int) where a * x == a)) then a else a
late_in_not_and_divides :
    is_accepted (def (at 1) (codes "main") (param (at 10) (codes "a") Int ∷ []) (Int ∷ [])
    (raw_if (at 25) (raw_not (at 28) (raw_group (at 29)
    (raw_divides (at 30) (pos 2) (raw_group (at 40)
    (raw_choose (at 41) (param (at 49) (codes "x") Int ∷ [])
    (raw_binary (at 69) (Compare Eq) (raw_binary (at 65) Mul (raw_name (at 63) (codes "a")) (raw_name (at 67) (codes "x")))
    (raw_name (at 72) (codes "a")))))))) (raw_name (at 81) (codes "a")) (raw_name (at 88) (codes "a"))) ∷ [])
    ≡ true
late_in_not_and_divides = refl

-- def main(a: int): int = abs((choose (x: int) where a * x == a))
late_in_abs :
    is_accepted (def (at 1) (codes "main") (param (at 10) (codes "a") Int ∷ []) (Int ∷ [])
    (raw_abs (at 25) (raw_group (at 29) (raw_choose (at 30) (param (at 38) (codes "x") Int ∷ [])
    (raw_binary (at 58) (Compare Eq) (raw_binary (at 54) Mul (raw_name (at 52) (codes "a")) (raw_name (at 56) (codes "x")))
    (raw_name (at 61) (codes "a")))))) ∷ [])
    ≡ true
late_in_abs = refl

-- def main(a: int): int = (choose (x: int) where a * x == a) + a
late_on_the_left :
    is_accepted (def (at 1) (codes "main") (param (at 10) (codes "a") Int ∷ []) (Int ∷ [])
    (raw_binary (at 60) Add (raw_group (at 25)
    (raw_choose (at 26) (param (at 34) (codes "x") Int ∷ [])
    (raw_binary (at 54) (Compare Eq) (raw_binary (at 50) Mul (raw_name (at 48) (codes "a")) (raw_name (at 52) (codes "x")))
    (raw_name (at 57) (codes "a"))))) (raw_name (at 62) (codes "a"))) ∷ [])
    ≡ true
late_on_the_left = refl

-- def main(a: int): int = a + (choose (x: int) where a * x == a)
late_on_the_right :
    is_accepted (def (at 1) (codes "main") (param (at 10) (codes "a") Int ∷ []) (Int ∷ [])
    (raw_binary (at 27) Add (raw_name (at 25) (codes "a"))
    (raw_group (at 29) (raw_choose (at 30) (param (at 38) (codes "x") Int ∷ [])
    (raw_binary (at 58) (Compare Eq) (raw_binary (at 54) Mul (raw_name (at 52) (codes "a")) (raw_name (at 56) (codes "x")))
    (raw_name (at 61) (codes "a")))))) ∷ [])
    ≡ true
late_on_the_right = refl

-- def main(a: int): int = div((choose (x: int) where a * x == a), 2)
late_in_div :
    is_accepted (def (at 1) (codes "main") (param (at 10) (codes "a") Int ∷ []) (Int ∷ [])
    (raw_div (at 25) (raw_group (at 29) (raw_choose (at 30) (param (at 38) (codes "x") Int ∷ [])
    (raw_binary (at 58) (Compare Eq) (raw_binary (at 54) Mul (raw_name (at 52) (codes "a")) (raw_name (at 56) (codes "x")))
    (raw_name (at 61) (codes "a"))))) (pos 2)) ∷ [])
    ≡ true
late_in_div = refl

-- def main(a: int): int = mod((choose (x: int) where a * x == a), 2)
late_in_mod :
    is_accepted (def (at 1) (codes "main") (param (at 10) (codes "a") Int ∷ []) (Int ∷ [])
    (raw_mod (at 25) (raw_group (at 29) (raw_choose (at 30) (param (at 38) (codes "x") Int ∷ [])
    (raw_binary (at 58) (Compare Eq) (raw_binary (at 54) Mul (raw_name (at 52) (codes "a")) (raw_name (at 56) (codes "x")))
    (raw_name (at 61) (codes "a"))))) (pos 2)) ∷ [])
    ≡ true
late_in_mod = refl

-- def main(a: int): int = card((choose (t: set) where a * card(t) == a))
late_in_card :
    is_accepted (def (at 1) (codes "main") (param (at 10) (codes "a") Int ∷ []) (Int ∷ [])
    (raw_card (at 25) (raw_group (at 30) (raw_choose (at 31) (param (at 39) (codes "t") Set ∷ [])
    (raw_binary (at 65) (Compare Eq) (raw_binary (at 55) Mul (raw_name (at 53) (codes "a")) (raw_card (at 57) (raw_name (at 62) (codes "t"))))
    (raw_name (at 68) (codes "a")))))) ∷ [])
    ≡ true
late_in_card = refl

-- def main(a: int): int = card({(choose (x: int) where a * x == a), a})
late_in_set :
    is_accepted (def (at 1) (codes "main") (param (at 10) (codes "a") Int ∷ []) (Int ∷ [])
    (raw_card (at 25) (raw_set_of (at 30) (raws_of
    ((raw_group (at 31) (raw_choose (at 32) (param (at 40) (codes "x") Int ∷ [])
    (raw_binary (at 60) (Compare Eq) (raw_binary (at 56) Mul (raw_name (at 54) (codes "a")) (raw_name (at 58) (codes "x")))
    (raw_name (at 63) (codes "a"))))) ∷ (raw_name (at 67) (codes "a")) ∷ [])))) ∷ [])
    ≡ true
late_in_set = refl

-- def main(a: int): int = card({a, (choose (x: int) where a * x == a)})
late_behind_an_element :
    is_accepted (def (at 1) (codes "main") (param (at 10) (codes "a") Int ∷ []) (Int ∷ [])
    (raw_card (at 25) (raw_set_of (at 30) (raws_of
    ((raw_name (at 31) (codes "a")) ∷ (raw_group (at 34)
    (raw_choose (at 35) (param (at 43) (codes "x") Int ∷ [])
    (raw_binary (at 63) (Compare Eq) (raw_binary (at 59) Mul (raw_name (at 57) (codes "a")) (raw_name (at 61) (codes "x")))
    (raw_name (at 66) (codes "a"))))) ∷ [])))) ∷ [])
    ≡ true
late_behind_an_element = refl

-- def main(a: int): int = let (y, z) = ((choose (x: int) where a * x == a), a) in y
late_in_tuple :
    is_accepted (def (at 1) (codes "main") (param (at 10) (codes "a") Int ∷ []) (Int ∷ [])
    (raw_let (at 25) ((codes "y") ∷ (codes "z") ∷ []) ((at 30) ∷ (at 33) ∷ [])
    (raw_tuple (at 38) (raws_of ((raw_group (at 39)
    (raw_choose (at 40) (param (at 48) (codes "x") Int ∷ [])
    (raw_binary (at 68) (Compare Eq) (raw_binary (at 64) Mul (raw_name (at 62) (codes "a")) (raw_name (at 66) (codes "x")))
    (raw_name (at 71) (codes "a"))))) ∷ (raw_name (at 75) (codes "a")) ∷ []))) (raw_name (at 81) (codes "y"))) ∷ [])
    ≡ true
late_in_tuple = refl

-- def main(a: int): int = let y = a in (choose (x: int) where a * x == a)
late_in_let :
    is_accepted (def (at 1) (codes "main") (param (at 10) (codes "a") Int ∷ []) (Int ∷ [])
    (raw_let (at 25) ((codes "y") ∷ []) ((at 29) ∷ []) (raw_name (at 33) (codes "a"))
    (raw_group (at 38) (raw_choose (at 39) (param (at 47) (codes "x") Int ∷ [])
    (raw_binary (at 67) (Compare Eq) (raw_binary (at 63) Mul (raw_name (at 61) (codes "a")) (raw_name (at 65) (codes "x")))
    (raw_name (at 70) (codes "a")))))) ∷ [])
    ≡ true
late_in_let = refl

-- def main(a: int): int = if (choose (x: int) where a * x == a) == a then a else a
late_in_test :
    is_accepted (def (at 1) (codes "main") (param (at 10) (codes "a") Int ∷ []) (Int ∷ [])
    (raw_if (at 25) (raw_binary (at 63) (Compare Eq)
    (raw_group (at 28) (raw_choose (at 29) (param (at 37) (codes "x") Int ∷ [])
    (raw_binary (at 57) (Compare Eq) (raw_binary (at 53) Mul (raw_name (at 51) (codes "a")) (raw_name (at 55) (codes "x")))
    (raw_name (at 60) (codes "a"))))) (raw_name (at 66) (codes "a"))) (raw_name (at 73) (codes "a")) (raw_name (at 80) (codes "a"))) ∷ [])
    ≡ true
late_in_test = refl

-- def main(a: int): int = if true then (choose (x: int) where a * x == a) else a
late_in_then :
    is_accepted (def (at 1) (codes "main") (param (at 10) (codes "a") Int ∷ []) (Int ∷ [])
    (raw_if (at 25) (raw_truth (at 28) true)
    (raw_group (at 38) (raw_choose (at 39) (param (at 47) (codes "x") Int ∷ [])
    (raw_binary (at 67) (Compare Eq) (raw_binary (at 63) Mul (raw_name (at 61) (codes "a")) (raw_name (at 65) (codes "x")))
    (raw_name (at 70) (codes "a"))))) (raw_name (at 78) (codes "a"))) ∷ [])
    ≡ true
late_in_then = refl

-- def main(a: int): int = if true then a else (choose (x: int) where a * x == a)
late_in_else :
    is_accepted (def (at 1) (codes "main") (param (at 10) (codes "a") Int ∷ []) (Int ∷ [])
    (raw_if (at 25) (raw_truth (at 28) true) (raw_name (at 38) (codes "a"))
    (raw_group (at 45) (raw_choose (at 46) (param (at 54) (codes "x") Int ∷ [])
    (raw_binary (at 74) (Compare Eq) (raw_binary (at 70) Mul (raw_name (at 68) (codes "a")) (raw_name (at 72) (codes "x")))
    (raw_name (at 77) (codes "a")))))) ∷ [])
    ≡ true
late_in_else = refl

-- def main(a: int): int = match (choose (x: int) where a * x == a) with { 0 then a; i then i }
late_in_match :
    is_accepted (def (at 1) (codes "main") (param (at 10) (codes "a") Int ∷ []) (Int ∷ [])
    (raw_match (at 25) (raw_group (at 31) (raw_choose (at 32) (param (at 40) (codes "x") Int ∷ [])
    (raw_binary (at 60) (Compare Eq) (raw_binary (at 56) Mul (raw_name (at 54) (codes "a")) (raw_name (at 58) (codes "x")))
    (raw_name (at 63) (codes "a"))))) (raw_arms_of
    (raw_arm [] (pos 0) (raw_name (at 80) (codes "a")) ∷ raw_arm (part (at 83) (pos 1) (codes "i") ∷ []) (pos 0) (raw_name (at 90) (codes "i")) ∷ []))) ∷
    [])
    ≡ true
unfolding gcd_by
late_in_match = refl

-- def main(a: int): int = match a with { 0 then (choose (x: int) where a * x == a); i then i }
late_in_first_arm :
    is_accepted (def (at 1) (codes "main") (param (at 10) (codes "a") Int ∷ []) (Int ∷ [])
    (raw_match (at 25) (raw_name (at 31) (codes "a"))
    (raw_arms_of (raw_arm [] (pos 0) (raw_group (at 47)
    (raw_choose (at 48) (param (at 56) (codes "x") Int ∷ [])
    (raw_binary (at 76) (Compare Eq) (raw_binary (at 72) Mul (raw_name (at 70) (codes "a")) (raw_name (at 74) (codes "x")))
    (raw_name (at 79) (codes "a"))))) ∷ raw_arm (part (at 83) (pos 1) (codes "i") ∷ []) (pos 0) (raw_name (at 90) (codes "i")) ∷ []))) ∷ [])
    ≡ true
unfolding gcd_by
late_in_first_arm = refl

-- def main(a: int): int = match a with { 0 then a; i then (choose (x: int) where a * x == a) }
late_in_last_arm :
    is_accepted (def (at 1) (codes "main") (param (at 10) (codes "a") Int ∷ []) (Int ∷ [])
    (raw_match (at 25) (raw_name (at 31) (codes "a"))
    (raw_arms_of (raw_arm [] (pos 0) (raw_name (at 47) (codes "a")) ∷ raw_arm (part (at 50) (pos 1) (codes "i") ∷ []) (pos 0)
    (raw_group (at 57) (raw_choose (at 58) (param (at 66) (codes "x") Int ∷ [])
    (raw_binary (at 86) (Compare Eq) (raw_binary (at 82) Mul (raw_name (at 80) (codes "a")) (raw_name (at 84) (codes "x")))
    (raw_name (at 89) (codes "a"))))) ∷ []))) ∷ [])
    ≡ true
unfolding gcd_by
late_in_last_arm = refl

-- def f(y: int): int = y
-- def main(a: int): int = f((choose (x: int) where a * x == a))
late_in_argument :
    is_accepted (def (at 1) (codes "f") (param (at 7) (codes "y") Int ∷ []) (Int ∷ []) (raw_name (at 22) (codes "y")) ∷ def (on 2 1) (codes "main")
    (param (on 2 10) (codes "a") Int ∷ []) (Int ∷ [])
    (raw_call (on 2 25) (codes "f") (raws_of
    ((raw_group (on 2 27) (raw_choose (on 2 28) (param (on 2 36) (codes "x") Int ∷ [])
    (raw_binary (on 2 56) (Compare Eq) (raw_binary (on 2 52) Mul (raw_name (on 2 50) (codes "a")) (raw_name (on 2 54) (codes "x")))
    (raw_name (on 2 59) (codes "a"))))) ∷ []))) ∷ [])
    ≡ true
late_in_argument = refl

-- def f(y: int): int = y
-- def main(a: int): int = choose (x: int) where a * x == a
late_in_a_later_function :
    is_accepted (def (at 1) (codes "f") (param (at 7) (codes "y") Int ∷ []) (Int ∷ []) (raw_name (at 22) (codes "y")) ∷ def (on 2 1) (codes "main")
    (param (on 2 10) (codes "a") Int ∷ []) (Int ∷ [])
    (raw_choose (on 2 25) (param (on 2 33) (codes "x") Int ∷ [])
    (raw_binary (on 2 53) (Compare Eq) (raw_binary (on 2 49) Mul (raw_name (on 2 47) (codes "a")) (raw_name (on 2 51) (codes "x")))
    (raw_name (on 2 56) (codes "a")))) ∷ [])
    ≡ true
late_in_a_later_function = refl

-- ---- numbers in scope are known in every part of a relation
-- def main(a: int): int = choose (x: int) where a * x + a == a - a * x
known_in_sums :
    is_accepted (def (at 1) (codes "main") (param (at 10) (codes "a") Int ∷ []) (Int ∷ [])
    (raw_choose (at 25) (param (at 33) (codes "x") Int ∷ [])
    (raw_binary (at 57) (Compare Eq) (raw_binary (at 53) Add (raw_binary (at 49) Mul (raw_name (at 47) (codes "a")) (raw_name (at 51) (codes "x")))
    (raw_name (at 55) (codes "a"))) (raw_binary (at 62) Sub (raw_name (at 60) (codes "a"))
    (raw_binary (at 66) Mul (raw_name (at 64) (codes "a")) (raw_name (at 68) (codes "x")))))) ∷ [])
    ≡ true
known_in_sums = refl

-- def main(a: int): int = choose (x: int) where -(a * x) == a
known_in_neg :
    is_accepted (def (at 1) (codes "main") (param (at 10) (codes "a") Int ∷ []) (Int ∷ [])
    (raw_choose (at 25) (param (at 33) (codes "x") Int ∷ [])
    (raw_binary (at 56) (Compare Eq) (raw_neg (at 47)
    (raw_group (at 48) (raw_binary (at 51) Mul (raw_name (at 49) (codes "a")) (raw_name (at 53) (codes "x"))))) (raw_name (at 59) (codes "a")))) ∷ [])
    ≡ true
known_in_neg = refl

-- def main(a: int): int = choose (x: int) where abs(a * x) == a
known_in_abs :
    is_accepted (def (at 1) (codes "main") (param (at 10) (codes "a") Int ∷ []) (Int ∷ [])
    (raw_choose (at 25) (param (at 33) (codes "x") Int ∷ [])
    (raw_binary (at 58) (Compare Eq) (raw_abs (at 47) (raw_binary (at 53) Mul (raw_name (at 51) (codes "a")) (raw_name (at 55) (codes "x"))))
    (raw_name (at 61) (codes "a")))) ∷ [])
    ≡ true
known_in_abs = refl

-- def main(a: int): int = choose (x: int) where div(a * x, 2) == a
known_in_div :
    is_accepted (def (at 1) (codes "main") (param (at 10) (codes "a") Int ∷ []) (Int ∷ [])
    (raw_choose (at 25) (param (at 33) (codes "x") Int ∷ [])
    (raw_binary (at 61) (Compare Eq) (raw_div (at 47) (raw_binary (at 53) Mul (raw_name (at 51) (codes "a")) (raw_name (at 55) (codes "x"))) (pos 2))
    (raw_name (at 64) (codes "a")))) ∷ [])
    ≡ true
known_in_div = refl

-- def main(a: int): int = choose (x: int) where a == mod(a * x, 2)
known_in_mod :
    is_accepted (def (at 1) (codes "main") (param (at 10) (codes "a") Int ∷ []) (Int ∷ [])
    (raw_choose (at 25) (param (at 33) (codes "x") Int ∷ [])
    (raw_binary (at 49) (Compare Eq) (raw_name (at 47) (codes "a"))
    (raw_mod (at 52) (raw_binary (at 58) Mul (raw_name (at 56) (codes "a")) (raw_name (at 60) (codes "x"))) (pos 2)))) ∷ [])
    ≡ true
known_in_mod = refl

-- def main(a: int): int = choose (x: int) where !(2 divides a * x) && a * x < 2 || a * x > 3
known_in_truth :
    is_accepted (def (at 1) (codes "main") (param (at 10) (codes "a") Int ∷ []) (Int ∷ [])
    (raw_choose (at 25) (param (at 33) (codes "x") Int ∷ [])
    (raw_binary (at 79) Or (raw_binary (at 66) And
    (raw_not (at 47) (raw_group (at 48) (raw_divides (at 49) (pos 2)
    (raw_binary (at 61) Mul (raw_name (at 59) (codes "a")) (raw_name (at 63) (codes "x"))))))
    (raw_binary (at 75) (Compare Lt) (raw_binary (at 71) Mul (raw_name (at 69) (codes "a")) (raw_name (at 73) (codes "x"))) (raw_lit (at 77) (pos 2))))
    (raw_binary (at 88) (Compare Gt) (raw_binary (at 84) Mul (raw_name (at 82) (codes "a")) (raw_name (at 86) (codes "x"))) (raw_lit (at 90) (pos 3))))) ∷
    [])
    ≡ true
known_in_truth = refl

-- ---- where a product is linear, the form around it is the first that is not
-- def main(a: int): int = choose (x: int) where card({a * x}) == a
first_is_the_set :
    checked_late (def (at 1) (codes "main") (param (at 10) (codes "a") Int ∷ []) (Int ∷ [])
    (raw_choose (at 25) (param (at 33) (codes "x") Int ∷ [])
    (raw_binary (at 61) (Compare Eq) (raw_card (at 47)
    (raw_set_of (at 52) (raws_of ((raw_binary (at 55) Mul (raw_name (at 53) (codes "a")) (raw_name (at 57) (codes "x"))) ∷ []))))
    (raw_name (at 64) (codes "a")))) ∷ [])
    ≡ Err (NotLinear (at 52))
first_is_the_set = refl

-- def main(a: int): int = choose (x: int) where (let (y, z) = (a * x, a * x) in y == z)
first_is_the_tuple :
    checked_late (def (at 1) (codes "main") (param (at 10) (codes "a") Int ∷ []) (Int ∷ [])
    (raw_choose (at 25) (param (at 33) (codes "x") Int ∷ [])
    (raw_group (at 47) (raw_let (at 48) ((codes "y") ∷ (codes "z") ∷ []) ((at 53) ∷ (at 56) ∷ [])
    (raw_tuple (at 61) (raws_of ((raw_binary (at 64) Mul (raw_name (at 62) (codes "a")) (raw_name (at 66) (codes "x"))) ∷
    (raw_binary (at 71) Mul (raw_name (at 69) (codes "a")) (raw_name (at 73) (codes "x"))) ∷ [])))
    (raw_binary (at 81) (Compare Eq) (raw_name (at 79) (codes "y")) (raw_name (at 84) (codes "z")))))) ∷ [])
    ≡ Err (NotLinear (at 61))
first_is_the_tuple = refl

-- def f(y: int): int = y
-- def main(a: int): int = choose (x: int) where f(a * x) == a
first_is_the_call :
    checked_late (def (at 1) (codes "f") (param (at 7) (codes "y") Int ∷ []) (Int ∷ []) (raw_name (at 22) (codes "y")) ∷ def (on 2 1) (codes "main")
    (param (on 2 10) (codes "a") Int ∷ []) (Int ∷ [])
    (raw_choose (on 2 25) (param (on 2 33) (codes "x") Int ∷ [])
    (raw_binary (on 2 56) (Compare Eq) (raw_call (on 2 47) (codes "f")
    (raws_of ((raw_binary (on 2 51) Mul (raw_name (on 2 49) (codes "a")) (raw_name (on 2 53) (codes "x"))) ∷ []))) (raw_name (on 2 59) (codes "a")))) ∷ [])
    ≡ Err (NotLinear (on 2 47))
first_is_the_call = refl

-- def main(a: int): int = choose (x: int) where (if a * x == a then true else a * x == x)
first_is_the_if :
    checked_late (def (at 1) (codes "main") (param (at 10) (codes "a") Int ∷ []) (Int ∷ [])
    (raw_choose (at 25) (param (at 33) (codes "x") Int ∷ [])
    (raw_group (at 47) (raw_if (at 48) (raw_binary (at 57) (Compare Eq)
    (raw_binary (at 53) Mul (raw_name (at 51) (codes "a")) (raw_name (at 55) (codes "x"))) (raw_name (at 60) (codes "a"))) (raw_truth (at 67) true)
    (raw_binary (at 83) (Compare Eq) (raw_binary (at 79) Mul (raw_name (at 77) (codes "a")) (raw_name (at 81) (codes "x")))
    (raw_name (at 86) (codes "x")))))) ∷ [])
    ≡ Err (NotLinear (at 48))
first_is_the_if = refl

-- def main(a: int): int = choose (x: int) where (let y = a * x in a * x == y)
first_is_the_let :
    checked_late (def (at 1) (codes "main") (param (at 10) (codes "a") Int ∷ []) (Int ∷ [])
    (raw_choose (at 25) (param (at 33) (codes "x") Int ∷ [])
    (raw_group (at 47) (raw_let (at 48) ((codes "y") ∷ []) ((at 52) ∷ [])
    (raw_binary (at 58) Mul (raw_name (at 56) (codes "a")) (raw_name (at 60) (codes "x")))
    (raw_binary (at 71) (Compare Eq) (raw_binary (at 67) Mul (raw_name (at 65) (codes "a")) (raw_name (at 69) (codes "x")))
    (raw_name (at 74) (codes "y")))))) ∷ [])
    ≡ Err (NotLinear (at 48))
first_is_the_let = refl

-- def main(a: int): int = choose (x: int) where (match a * x with { 0 then a * x; i then a * x }) == a
first_is_the_match :
    checked_late (def (at 1) (codes "main") (param (at 10) (codes "a") Int ∷ []) (Int ∷ [])
    (raw_choose (at 25) (param (at 33) (codes "x") Int ∷ [])
    (raw_binary (at 97) (Compare Eq) (raw_group (at 47)
    (raw_match (at 48) (raw_binary (at 56) Mul (raw_name (at 54) (codes "a")) (raw_name (at 58) (codes "x")))
    (raw_arms_of (raw_arm [] (pos 0) (raw_binary (at 76) Mul (raw_name (at 74) (codes "a")) (raw_name (at 78) (codes "x"))) ∷ raw_arm
    (part (at 81) (pos 1) (codes "i") ∷ []) (pos 0) (raw_binary (at 90) Mul (raw_name (at 88) (codes "a")) (raw_name (at 92) (codes "x"))) ∷ []))))
    (raw_name (at 100) (codes "a")))) ∷ [])
    ≡ Err (NotLinear (at 48))
first_is_the_match = refl

-- def main(a: int): int = choose (x: int) where x == (choose (y: int) where a * y == a)
first_is_the_inner_choose :
    checked_late (def (at 1) (codes "main") (param (at 10) (codes "a") Int ∷ []) (Int ∷ [])
    (raw_choose (at 25) (param (at 33) (codes "x") Int ∷ [])
    (raw_binary (at 49) (Compare Eq) (raw_name (at 47) (codes "x"))
    (raw_group (at 52) (raw_choose (at 53) (param (at 61) (codes "y") Int ∷ [])
    (raw_binary (at 81) (Compare Eq) (raw_binary (at 77) Mul (raw_name (at 75) (codes "a")) (raw_name (at 79) (codes "y")))
    (raw_name (at 84) (codes "a"))))))) ∷ [])
    ≡ Err (NotLinear (at 53))
first_is_the_inner_choose = refl

-- def main(a: int): int = choose (x: int) where x == (choose (y: int) where x * y == a)
first_is_in_the_inner_choose :
    checked_late (def (at 1) (codes "main") (param (at 10) (codes "a") Int ∷ []) (Int ∷ [])
    (raw_choose (at 25) (param (at 33) (codes "x") Int ∷ [])
    (raw_binary (at 49) (Compare Eq) (raw_name (at 47) (codes "x"))
    (raw_group (at 52) (raw_choose (at 53) (param (at 61) (codes "y") Int ∷ [])
    (raw_binary (at 81) (Compare Eq) (raw_binary (at 77) Mul (raw_name (at 75) (codes "x")) (raw_name (at 79) (codes "y")))
    (raw_name (at 84) (codes "a"))))))) ∷ [])
    ≡ Err (NotLinear (at 77))
first_is_in_the_inner_choose = refl

-- def main(a: int): int = choose (x: int) where x * x == (choose (y: int) where x * y == a)
first_is_before_the_inner_choose :
    checked_late (def (at 1) (codes "main") (param (at 10) (codes "a") Int ∷ []) (Int ∷ [])
    (raw_choose (at 25) (param (at 33) (codes "x") Int ∷ [])
    (raw_binary (at 53) (Compare Eq) (raw_binary (at 49) Mul (raw_name (at 47) (codes "x")) (raw_name (at 51) (codes "x")))
    (raw_group (at 56) (raw_choose (at 57) (param (at 65) (codes "y") Int ∷ [])
    (raw_binary (at 85) (Compare Eq) (raw_binary (at 81) Mul (raw_name (at 79) (codes "x")) (raw_name (at 83) (codes "y")))
    (raw_name (at 88) (codes "a"))))))) ∷ [])
    ≡ Err (NotLinear (at 49))
first_is_before_the_inner_choose = refl

-- def main(a: int): int = choose (x: int) where x * x == (choose (y: int) where y * y == a)
inner_choose_has_two_outputs :
    checked_late (def (at 1) (codes "main") (param (at 10) (codes "a") Int ∷ []) (Int ∷ [])
    (raw_choose (at 25) (param (at 33) (codes "x") Int ∷ [])
    (raw_binary (at 53) (Compare Eq) (raw_binary (at 49) Mul (raw_name (at 47) (codes "x")) (raw_name (at 51) (codes "x")))
    (raw_group (at 56) (raw_choose (at 57) (param (at 65) (codes "y") Int ∷ [])
    (raw_binary (at 85) (Compare Eq) (raw_binary (at 81) Mul (raw_name (at 79) (codes "y")) (raw_name (at 83) (codes "y")))
    (raw_name (at 88) (codes "a"))))))) ∷ [])
    ≡ Err (NotLinear (at 81))
inner_choose_has_two_outputs = refl

-- def main(a: int): int = choose (x: int) where (choose (y: int) where x * y == a) == a && x == true
inner_choose_comes_last :
    checked_late (def (at 1) (codes "main") (param (at 10) (codes "a") Int ∷ []) (Int ∷ [])
    (raw_choose (at 25) (param (at 33) (codes "x") Int ∷ [])
    (raw_binary (at 87) And (raw_binary (at 82) (Compare Eq)
    (raw_group (at 47) (raw_choose (at 48) (param (at 56) (codes "y") Int ∷ [])
    (raw_binary (at 76) (Compare Eq) (raw_binary (at 72) Mul (raw_name (at 70) (codes "x")) (raw_name (at 74) (codes "y")))
    (raw_name (at 79) (codes "a"))))) (raw_name (at 85) (codes "a")))
    (raw_binary (at 92) (Compare Eq) (raw_name (at 90) (codes "x")) (raw_truth (at 95) true)))) ∷ [])
    ≡ Err (Mismatch (at 92))
inner_choose_comes_last = refl

-- ---- the relation of such a choose, behind one variable, and behind none
abbrev product : RelTree
product = rel_compare Eq (term_mul (term_var 0) (term_var 1)) (term_lit (pos 3))

linear_behind_one : IsLinearBy Late 1 product × (IsLinearBy Late 0 product → ⊥) × (IsLinearBy Plain 1 product → ⊥)
linear_behind_one = (((tt, tt, refl), tt), λ h. cc, λ h. cc)
