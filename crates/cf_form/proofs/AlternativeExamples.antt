-- Worked examples that hold down the alternatives of number forms and set forms: their order, their guards, and where they stand.
use Rattle.std.specs.Prelude.{pos, List, ◌≡◌, [], ◌∷◌, refl}
use Rattle.cf_tree.specs.declared.base.Base.{Base}
use Rattle.cf_tree.specs.declared.base.Base.TheVariants.{Int, Bool as Truth, Set}
use Rattle.cf_tree.specs.ExprTree.{ExprTree, expr_abs, expr_binary, expr_card, expr_chain, expr_div, expr_divides, expr_if, expr_lit, expr_max, expr_min, expr_mod, expr_neg, expr_var, exprs_of}
use Rattle.cf_tree.specs.RelTree.{RelTree, diff_of, inter_of, rel_and, rel_compare, rel_divides, rel_not, rel_or, rel_other_set, rel_same_set, rel_subset, set_var, term_abs, term_add, term_card, term_div, term_lit, term_mod, term_mul, term_neg, term_sub, term_var, union_of}
use Rattle.cf_tree.specs.declared.base.Order.TheVariants.{Eq, Ge, Gt, Le, Lt, Ne}
use Rattle.cf_tree.specs.declared.raw.BinOp.TheVariants.{Add, Compare, Diff, Inter, Mul, Sub, Subset, Union}
use Rattle.cf_form.specs.Expansion.{wide_of}
use Rattle.cf_form.specs.Polarity.{failing, holding}
use Rattle.cf_form.specs.Branches.{values_in}

-- parameters a, b, s, t, and outputs x, u, p, q
abbrev bases : List Base
bases = Int ∷ Int ∷ Set ∷ Set ∷ Int ∷ Set ∷ Truth ∷ Truth ∷ []

abbrev holds : ExprTree → RelTree
holds e = holding (values_in []) (wide_of [] bases e)

abbrev fails : ExprTree → RelTree
fails e = failing (values_in []) (wide_of [] bases e)

-- `min(a, x) == b`
abbrev least : ExprTree
least = expr_binary (Compare Eq) (expr_min (exprs_of (expr_var 0 ∷ expr_var 4 ∷ []))) (expr_var 1)

least_holds : holds least ≡
    rel_or
    (rel_and (rel_compare Le (term_var 0) (term_var 4)) (rel_compare Eq (term_var 0) (term_var 1)))
    (rel_and (rel_compare Gt (term_var 0) (term_var 4)) (rel_compare Eq (term_var 4) (term_var 1)))
least_holds = refl

least_fails : fails least ≡
    rel_or
    (rel_and (rel_compare Le (term_var 0) (term_var 4)) (rel_not (rel_compare Eq (term_var 0) (term_var 1))))
    (rel_and (rel_compare Gt (term_var 0) (term_var 4)) (rel_not (rel_compare Eq (term_var 4) (term_var 1))))
least_fails = refl

-- `max(a, x) == b`
abbrev greatest : ExprTree
greatest = expr_binary (Compare Eq) (expr_max (exprs_of (expr_var 0 ∷ expr_var 4 ∷ []))) (expr_var 1)

greatest_holds : holds greatest ≡
    rel_or
    (rel_and (rel_compare Ge (term_var 0) (term_var 4)) (rel_compare Eq (term_var 0) (term_var 1)))
    (rel_and (rel_compare Lt (term_var 0) (term_var 4)) (rel_compare Eq (term_var 4) (term_var 1)))
greatest_holds = refl

-- `min(a, x, 3) == b`
abbrev of_three : ExprTree
of_three = expr_binary (Compare Eq) (expr_min (exprs_of (expr_var 0 ∷ expr_var 4 ∷ expr_lit (pos 3) ∷ []))) (expr_var 1)

of_three_holds : holds of_three ≡
    rel_or
    (rel_or
    (rel_and
    (rel_compare Le (term_var 0) (term_var 4))
    (rel_and (rel_compare Le (term_var 0) (term_lit (pos 3))) (rel_compare Eq (term_var 0) (term_var 1))))
    (rel_and
    (rel_compare Le (term_var 0) (term_var 4))
    (rel_and (rel_compare Gt (term_var 0) (term_lit (pos 3))) (rel_compare Eq (term_lit (pos 3)) (term_var 1)))))
    (rel_or
    (rel_and
    (rel_compare Gt (term_var 0) (term_var 4))
    (rel_and (rel_compare Le (term_var 4) (term_lit (pos 3))) (rel_compare Eq (term_var 4) (term_var 1))))
    (rel_and
    (rel_compare Gt (term_var 0) (term_var 4))
    (rel_and (rel_compare Gt (term_var 4) (term_lit (pos 3))) (rel_compare Eq (term_lit (pos 3)) (term_var 1)))))
of_three_holds = refl

-- `max(a, b, x, 3) < 9`
abbrev of_four : ExprTree
of_four = expr_binary (Compare Lt) (expr_max (exprs_of (expr_var 0 ∷ expr_var 1 ∷ expr_var 4 ∷ expr_lit (pos 3) ∷ []))) (expr_lit (pos 9))

of_four_holds : holds of_four ≡
    rel_or
    (rel_or
    (rel_or
    (rel_and
    (rel_and (rel_compare Ge (term_var 0) (term_var 1)) (rel_compare Ge (term_var 0) (term_var 4)))
    (rel_and (rel_compare Ge (term_var 0) (term_lit (pos 3))) (rel_compare Lt (term_var 0) (term_lit (pos 9)))))
    (rel_and
    (rel_and (rel_compare Ge (term_var 0) (term_var 1)) (rel_compare Ge (term_var 0) (term_var 4)))
    (rel_and (rel_compare Lt (term_var 0) (term_lit (pos 3))) (rel_compare Lt (term_lit (pos 3)) (term_lit (pos 9))))))
    (rel_or
    (rel_and
    (rel_and (rel_compare Ge (term_var 0) (term_var 1)) (rel_compare Lt (term_var 0) (term_var 4)))
    (rel_and (rel_compare Ge (term_var 4) (term_lit (pos 3))) (rel_compare Lt (term_var 4) (term_lit (pos 9)))))
    (rel_and
    (rel_and (rel_compare Ge (term_var 0) (term_var 1)) (rel_compare Lt (term_var 0) (term_var 4)))
    (rel_and (rel_compare Lt (term_var 4) (term_lit (pos 3))) (rel_compare Lt (term_lit (pos 3)) (term_lit (pos 9)))))))
    (rel_or
    (rel_or
    (rel_and
    (rel_and (rel_compare Lt (term_var 0) (term_var 1)) (rel_compare Ge (term_var 1) (term_var 4)))
    (rel_and (rel_compare Ge (term_var 1) (term_lit (pos 3))) (rel_compare Lt (term_var 1) (term_lit (pos 9)))))
    (rel_and
    (rel_and (rel_compare Lt (term_var 0) (term_var 1)) (rel_compare Ge (term_var 1) (term_var 4)))
    (rel_and (rel_compare Lt (term_var 1) (term_lit (pos 3))) (rel_compare Lt (term_lit (pos 3)) (term_lit (pos 9))))))
    (rel_or
    (rel_and
    (rel_and (rel_compare Lt (term_var 0) (term_var 1)) (rel_compare Lt (term_var 1) (term_var 4)))
    (rel_and (rel_compare Ge (term_var 4) (term_lit (pos 3))) (rel_compare Lt (term_var 4) (term_lit (pos 9)))))
    (rel_and
    (rel_and (rel_compare Lt (term_var 0) (term_var 1)) (rel_compare Lt (term_var 1) (term_var 4)))
    (rel_and (rel_compare Lt (term_var 4) (term_lit (pos 3))) (rel_compare Lt (term_lit (pos 3)) (term_lit (pos 9)))))))
of_four_holds = refl

-- `(if p then 1 else 2) == x`
abbrev tested : ExprTree
tested = expr_binary (Compare Eq) (expr_if (expr_var 6) (expr_lit (pos 1)) (expr_lit (pos 2))) (expr_var 4)

tested_holds : holds tested ≡
    rel_or
    (rel_and (rel_compare Ge (term_var 6) (term_lit (pos 1))) (rel_compare Eq (term_lit (pos 1)) (term_var 4)))
    (rel_and (rel_not (rel_compare Ge (term_var 6) (term_lit (pos 1)))) (rel_compare Eq (term_lit (pos 2)) (term_var 4)))
tested_holds = refl

tested_fails : fails tested ≡
    rel_or
    (rel_and (rel_compare Ge (term_var 6) (term_lit (pos 1))) (rel_not (rel_compare Eq (term_lit (pos 1)) (term_var 4))))
    (rel_and (rel_not (rel_compare Ge (term_var 6) (term_lit (pos 1)))) (rel_not (rel_compare Eq (term_lit (pos 2)) (term_var 4))))
tested_fails = refl

-- `(if p then 1 else 2) == (if q then a else b)`
abbrev both_sides : ExprTree
both_sides = expr_binary (Compare Eq) (expr_if (expr_var 6) (expr_lit (pos 1)) (expr_lit (pos 2))) (expr_if (expr_var 7) (expr_var 0) (expr_var 1))

both_sides_holds : holds both_sides ≡
    rel_or
    (rel_or
    (rel_and
    (rel_compare Ge (term_var 6) (term_lit (pos 1)))
    (rel_and (rel_compare Ge (term_var 7) (term_lit (pos 1))) (rel_compare Eq (term_lit (pos 1)) (term_var 0))))
    (rel_and
    (rel_compare Ge (term_var 6) (term_lit (pos 1)))
    (rel_and (rel_not (rel_compare Ge (term_var 7) (term_lit (pos 1)))) (rel_compare Eq (term_lit (pos 1)) (term_var 1)))))
    (rel_or
    (rel_and
    (rel_not (rel_compare Ge (term_var 6) (term_lit (pos 1))))
    (rel_and (rel_compare Ge (term_var 7) (term_lit (pos 1))) (rel_compare Eq (term_lit (pos 2)) (term_var 0))))
    (rel_and
    (rel_not (rel_compare Ge (term_var 6) (term_lit (pos 1))))
    (rel_and (rel_not (rel_compare Ge (term_var 7) (term_lit (pos 1)))) (rel_compare Eq (term_lit (pos 2)) (term_var 1)))))
both_sides_holds = refl

both_sides_fails : fails both_sides ≡
    rel_or
    (rel_or
    (rel_and
    (rel_compare Ge (term_var 6) (term_lit (pos 1)))
    (rel_and (rel_compare Ge (term_var 7) (term_lit (pos 1))) (rel_not (rel_compare Eq (term_lit (pos 1)) (term_var 0)))))
    (rel_and
    (rel_compare Ge (term_var 6) (term_lit (pos 1)))
    (rel_and (rel_not (rel_compare Ge (term_var 7) (term_lit (pos 1)))) (rel_not (rel_compare Eq (term_lit (pos 1)) (term_var 1))))))
    (rel_or
    (rel_and
    (rel_not (rel_compare Ge (term_var 6) (term_lit (pos 1))))
    (rel_and (rel_compare Ge (term_var 7) (term_lit (pos 1))) (rel_not (rel_compare Eq (term_lit (pos 2)) (term_var 0)))))
    (rel_and
    (rel_not (rel_compare Ge (term_var 6) (term_lit (pos 1))))
    (rel_and (rel_not (rel_compare Ge (term_var 7) (term_lit (pos 1)))) (rel_not (rel_compare Eq (term_lit (pos 2)) (term_var 1))))))
both_sides_fails = refl

-- `(if p then if q then 1 else 2 else 3) == x`
abbrev nested : ExprTree
nested = expr_binary (Compare Eq) (expr_if (expr_var 6) (expr_if (expr_var 7) (expr_lit (pos 1)) (expr_lit (pos 2))) (expr_lit (pos 3))) (expr_var 4)

nested_holds : holds nested ≡
    rel_or
    (rel_and
    (rel_compare Ge (term_var 6) (term_lit (pos 1)))
    (rel_and (rel_compare Ge (term_var 7) (term_lit (pos 1))) (rel_compare Eq (term_lit (pos 1)) (term_var 4))))
    (rel_or
    (rel_and
    (rel_compare Ge (term_var 6) (term_lit (pos 1)))
    (rel_and (rel_not (rel_compare Ge (term_var 7) (term_lit (pos 1)))) (rel_compare Eq (term_lit (pos 2)) (term_var 4))))
    (rel_and (rel_not (rel_compare Ge (term_var 6) (term_lit (pos 1)))) (rel_compare Eq (term_lit (pos 3)) (term_var 4))))
nested_holds = refl

-- `min(a, min(b, x)) == 1`
abbrev least_nested : ExprTree
least_nested = expr_binary (Compare Eq) (expr_min (exprs_of (expr_var 0 ∷ expr_min (exprs_of (expr_var 1 ∷ expr_var 4 ∷ [])) ∷ []))) (expr_lit (pos 1))

least_nested_holds : holds least_nested ≡
    rel_or
    (rel_or
    (rel_and
    (rel_compare Le (term_var 1) (term_var 4))
    (rel_and (rel_compare Le (term_var 0) (term_var 1)) (rel_compare Eq (term_var 0) (term_lit (pos 1)))))
    (rel_and
    (rel_compare Le (term_var 1) (term_var 4))
    (rel_and (rel_compare Gt (term_var 0) (term_var 1)) (rel_compare Eq (term_var 1) (term_lit (pos 1))))))
    (rel_or
    (rel_and
    (rel_compare Gt (term_var 1) (term_var 4))
    (rel_and (rel_compare Le (term_var 0) (term_var 4)) (rel_compare Eq (term_var 0) (term_lit (pos 1)))))
    (rel_and
    (rel_compare Gt (term_var 1) (term_var 4))
    (rel_and (rel_compare Gt (term_var 0) (term_var 4)) (rel_compare Eq (term_var 4) (term_lit (pos 1))))))
least_nested_holds = refl

-- `min(if p then a else b, x) == 1`
abbrev least_of_tests : ExprTree
least_of_tests = expr_binary (Compare Eq) (expr_min (exprs_of (expr_if (expr_var 6) (expr_var 0) (expr_var 1) ∷ expr_var 4 ∷ []))) (expr_lit (pos 1))

least_of_tests_holds : holds least_of_tests ≡
    rel_or
    (rel_or
    (rel_and
    (rel_compare Ge (term_var 6) (term_lit (pos 1)))
    (rel_and (rel_compare Le (term_var 0) (term_var 4)) (rel_compare Eq (term_var 0) (term_lit (pos 1)))))
    (rel_and
    (rel_compare Ge (term_var 6) (term_lit (pos 1)))
    (rel_and (rel_compare Gt (term_var 0) (term_var 4)) (rel_compare Eq (term_var 4) (term_lit (pos 1))))))
    (rel_or
    (rel_and
    (rel_not (rel_compare Ge (term_var 6) (term_lit (pos 1))))
    (rel_and (rel_compare Le (term_var 1) (term_var 4)) (rel_compare Eq (term_var 1) (term_lit (pos 1)))))
    (rel_and
    (rel_not (rel_compare Ge (term_var 6) (term_lit (pos 1))))
    (rel_and (rel_compare Gt (term_var 1) (term_var 4)) (rel_compare Eq (term_var 4) (term_lit (pos 1))))))
least_of_tests_holds = refl

-- `(if min(a, x) == 1 then a else b) == 1`
abbrev test_of_least : ExprTree
test_of_least =
    expr_binary (Compare Eq)
    (expr_if (expr_binary (Compare Eq) (expr_min (exprs_of (expr_var 0 ∷ expr_var 4 ∷ []))) (expr_lit (pos 1))) (expr_var 0) (expr_var 1))
    (expr_lit (pos 1))

test_of_least_holds : holds test_of_least ≡
    rel_or
    (rel_and
    (rel_or
    (rel_and (rel_compare Le (term_var 0) (term_var 4)) (rel_compare Eq (term_var 0) (term_lit (pos 1))))
    (rel_and (rel_compare Gt (term_var 0) (term_var 4)) (rel_compare Eq (term_var 4) (term_lit (pos 1)))))
    (rel_compare Eq (term_var 0) (term_lit (pos 1))))
    (rel_and
    (rel_or
    (rel_and (rel_compare Le (term_var 0) (term_var 4)) (rel_not (rel_compare Eq (term_var 0) (term_lit (pos 1)))))
    (rel_and (rel_compare Gt (term_var 0) (term_var 4)) (rel_not (rel_compare Eq (term_var 4) (term_lit (pos 1))))))
    (rel_compare Eq (term_var 1) (term_lit (pos 1))))
test_of_least_holds = refl

-- `-(if p then a else b) + 2 * x == 1`
abbrev in_forms : ExprTree
in_forms =
    expr_binary (Compare Eq)
    (expr_binary Add (expr_neg (expr_if (expr_var 6) (expr_var 0) (expr_var 1))) (expr_binary Mul (expr_lit (pos 2)) (expr_var 4)))
    (expr_lit (pos 1))

in_forms_holds : holds in_forms ≡
    rel_or
    (rel_and
    (rel_compare Ge (term_var 6) (term_lit (pos 1)))
    (rel_compare Eq (term_add (term_neg (term_var 0)) (term_mul (term_lit (pos 2)) (term_var 4))) (term_lit (pos 1))))
    (rel_and
    (rel_not (rel_compare Ge (term_var 6) (term_lit (pos 1))))
    (rel_compare Eq (term_add (term_neg (term_var 1)) (term_mul (term_lit (pos 2)) (term_var 4))) (term_lit (pos 1))))
in_forms_holds = refl

-- `(if x > 0 then 2 else 3) * x - 1 < 1`
abbrev in_product : ExprTree
in_product =
    expr_binary (Compare Lt)
    (expr_binary Sub
    (expr_binary Mul (expr_if (expr_binary (Compare Gt) (expr_var 4) (expr_lit (pos 0))) (expr_lit (pos 2)) (expr_lit (pos 3))) (expr_var 4))
    (expr_lit (pos 1)))
    (expr_lit (pos 1))

in_product_holds : holds in_product ≡
    rel_or
    (rel_and
    (rel_compare Gt (term_var 4) (term_lit (pos 0)))
    (rel_compare Lt (term_sub (term_mul (term_lit (pos 2)) (term_var 4)) (term_lit (pos 1))) (term_lit (pos 1))))
    (rel_and
    (rel_not (rel_compare Gt (term_var 4) (term_lit (pos 0))))
    (rel_compare Lt (term_sub (term_mul (term_lit (pos 3)) (term_var 4)) (term_lit (pos 1))) (term_lit (pos 1))))
in_product_holds = refl

-- `div(min(a, x), 2) == mod(max(a, x), 3)`
abbrev in_quotients : ExprTree
in_quotients =
    expr_binary (Compare Eq)
    (expr_div (expr_min (exprs_of (expr_var 0 ∷ expr_var 4 ∷ []))) (pos 2))
    (expr_mod (expr_max (exprs_of (expr_var 0 ∷ expr_var 4 ∷ []))) (pos 3))

in_quotients_holds : holds in_quotients ≡
    rel_or
    (rel_or
    (rel_and
    (rel_compare Le (term_var 0) (term_var 4))
    (rel_and (rel_compare Ge (term_var 0) (term_var 4)) (rel_compare Eq (term_div (term_var 0) (pos 2)) (term_mod (term_var 0) (pos 3)))))
    (rel_and
    (rel_compare Le (term_var 0) (term_var 4))
    (rel_and (rel_compare Lt (term_var 0) (term_var 4)) (rel_compare Eq (term_div (term_var 0) (pos 2)) (term_mod (term_var 4) (pos 3))))))
    (rel_or
    (rel_and
    (rel_compare Gt (term_var 0) (term_var 4))
    (rel_and (rel_compare Ge (term_var 0) (term_var 4)) (rel_compare Eq (term_div (term_var 4) (pos 2)) (term_mod (term_var 0) (pos 3)))))
    (rel_and
    (rel_compare Gt (term_var 0) (term_var 4))
    (rel_and (rel_compare Lt (term_var 0) (term_var 4)) (rel_compare Eq (term_div (term_var 4) (pos 2)) (term_mod (term_var 4) (pos 3))))))
in_quotients_holds = refl

-- `abs(min(a, x)) == 1`
abbrev in_abs : ExprTree
in_abs = expr_binary (Compare Eq) (expr_abs (expr_min (exprs_of (expr_var 0 ∷ expr_var 4 ∷ [])))) (expr_lit (pos 1))

in_abs_holds : holds in_abs ≡
    rel_or
    (rel_and (rel_compare Le (term_var 0) (term_var 4)) (rel_compare Eq (term_abs (term_var 0)) (term_lit (pos 1))))
    (rel_and (rel_compare Gt (term_var 0) (term_var 4)) (rel_compare Eq (term_abs (term_var 4)) (term_lit (pos 1))))
in_abs_holds = refl

-- `2 divides min(a, x)`
abbrev divided : ExprTree
divided = expr_divides (pos 2) (expr_min (exprs_of (expr_var 0 ∷ expr_var 4 ∷ [])))

divided_holds : holds divided ≡
    rel_or
    (rel_and (rel_compare Le (term_var 0) (term_var 4)) (rel_divides (pos 2) (term_var 0)))
    (rel_and (rel_compare Gt (term_var 0) (term_var 4)) (rel_divides (pos 2) (term_var 4)))
divided_holds = refl

divided_fails : fails divided ≡
    rel_or
    (rel_and (rel_compare Le (term_var 0) (term_var 4)) (rel_not (rel_divides (pos 2) (term_var 0))))
    (rel_and (rel_compare Gt (term_var 0) (term_var 4)) (rel_not (rel_divides (pos 2) (term_var 4))))
divided_fails = refl

-- `card(if p then s else u) == 1`
abbrev in_card : ExprTree
in_card = expr_binary (Compare Eq) (expr_card (expr_if (expr_var 6) (expr_var 2) (expr_var 5))) (expr_lit (pos 1))

in_card_holds : holds in_card ≡
    rel_or
    (rel_and (rel_compare Ge (term_var 6) (term_lit (pos 1))) (rel_compare Eq (term_card (set_var 2)) (term_lit (pos 1))))
    (rel_and (rel_not (rel_compare Ge (term_var 6) (term_lit (pos 1)))) (rel_compare Eq (term_card (set_var 5)) (term_lit (pos 1))))
in_card_holds = refl

-- `u == (if p then s else t)`
abbrev same_sets : ExprTree
same_sets = expr_binary (Compare Eq) (expr_var 5) (expr_if (expr_var 6) (expr_var 2) (expr_var 3))

same_sets_holds : holds same_sets ≡
    rel_or
    (rel_and (rel_compare Ge (term_var 6) (term_lit (pos 1))) (rel_same_set (set_var 5) (set_var 2)))
    (rel_and (rel_not (rel_compare Ge (term_var 6) (term_lit (pos 1)))) (rel_same_set (set_var 5) (set_var 3)))
same_sets_holds = refl

same_sets_fails : fails same_sets ≡
    rel_or
    (rel_and (rel_compare Ge (term_var 6) (term_lit (pos 1))) (rel_not (rel_same_set (set_var 5) (set_var 2))))
    (rel_and (rel_not (rel_compare Ge (term_var 6) (term_lit (pos 1)))) (rel_not (rel_same_set (set_var 5) (set_var 3))))
same_sets_fails = refl

-- `u != (if p then s else t)`
abbrev other_sets : ExprTree
other_sets = expr_binary (Compare Ne) (expr_var 5) (expr_if (expr_var 6) (expr_var 2) (expr_var 3))

other_sets_holds : holds other_sets ≡
    rel_or
    (rel_and (rel_compare Ge (term_var 6) (term_lit (pos 1))) (rel_other_set (set_var 5) (set_var 2)))
    (rel_and (rel_not (rel_compare Ge (term_var 6) (term_lit (pos 1)))) (rel_other_set (set_var 5) (set_var 3)))
other_sets_holds = refl

other_sets_fails : fails other_sets ≡
    rel_or
    (rel_and (rel_compare Ge (term_var 6) (term_lit (pos 1))) (rel_not (rel_other_set (set_var 5) (set_var 2))))
    (rel_and (rel_not (rel_compare Ge (term_var 6) (term_lit (pos 1)))) (rel_not (rel_other_set (set_var 5) (set_var 3))))
other_sets_fails = refl

-- `(if p then s else t) subset u`
abbrev subsets : ExprTree
subsets = expr_binary Subset (expr_if (expr_var 6) (expr_var 2) (expr_var 3)) (expr_var 5)

subsets_holds : holds subsets ≡
    rel_or
    (rel_and (rel_compare Ge (term_var 6) (term_lit (pos 1))) (rel_subset (set_var 2) (set_var 5)))
    (rel_and (rel_not (rel_compare Ge (term_var 6) (term_lit (pos 1)))) (rel_subset (set_var 3) (set_var 5)))
subsets_holds = refl

subsets_fails : fails subsets ≡
    rel_or
    (rel_and (rel_compare Ge (term_var 6) (term_lit (pos 1))) (rel_not (rel_subset (set_var 2) (set_var 5))))
    (rel_and (rel_not (rel_compare Ge (term_var 6) (term_lit (pos 1)))) (rel_not (rel_subset (set_var 3) (set_var 5))))
subsets_fails = refl

-- `(if p then s else t) union u == (s inter (if q then t else u)) diff u`
abbrev in_sets : ExprTree
in_sets =
    expr_binary (Compare Eq)
    (expr_binary Union (expr_if (expr_var 6) (expr_var 2) (expr_var 3)) (expr_var 5))
    (expr_binary Diff (expr_binary Inter (expr_var 2) (expr_if (expr_var 7) (expr_var 3) (expr_var 5))) (expr_var 5))

in_sets_holds : holds in_sets ≡
    rel_or
    (rel_or
    (rel_and
    (rel_compare Ge (term_var 6) (term_lit (pos 1)))
    (rel_and
    (rel_compare Ge (term_var 7) (term_lit (pos 1)))
    (rel_same_set (union_of (set_var 2) (set_var 5)) (diff_of (inter_of (set_var 2) (set_var 3)) (set_var 5)))))
    (rel_and
    (rel_compare Ge (term_var 6) (term_lit (pos 1)))
    (rel_and
    (rel_not (rel_compare Ge (term_var 7) (term_lit (pos 1))))
    (rel_same_set (union_of (set_var 2) (set_var 5)) (diff_of (inter_of (set_var 2) (set_var 5)) (set_var 5))))))
    (rel_or
    (rel_and
    (rel_not (rel_compare Ge (term_var 6) (term_lit (pos 1))))
    (rel_and
    (rel_compare Ge (term_var 7) (term_lit (pos 1)))
    (rel_same_set (union_of (set_var 3) (set_var 5)) (diff_of (inter_of (set_var 2) (set_var 3)) (set_var 5)))))
    (rel_and
    (rel_not (rel_compare Ge (term_var 6) (term_lit (pos 1))))
    (rel_and
    (rel_not (rel_compare Ge (term_var 7) (term_lit (pos 1))))
    (rel_same_set (union_of (set_var 3) (set_var 5)) (diff_of (inter_of (set_var 2) (set_var 5)) (set_var 5))))))
in_sets_holds = refl

-- `a <= min(x, b) < 9`
abbrev in_chain : ExprTree
in_chain = expr_chain (Le ∷ Lt ∷ []) (exprs_of (expr_var 0 ∷ expr_min (exprs_of (expr_var 4 ∷ expr_var 1 ∷ [])) ∷ expr_lit (pos 9) ∷ []))

in_chain_holds : holds in_chain ≡
    rel_and
    (rel_or
    (rel_and (rel_compare Le (term_var 4) (term_var 1)) (rel_compare Le (term_var 0) (term_var 4)))
    (rel_and (rel_compare Gt (term_var 4) (term_var 1)) (rel_compare Le (term_var 0) (term_var 1))))
    (rel_or
    (rel_and (rel_compare Le (term_var 4) (term_var 1)) (rel_compare Lt (term_var 4) (term_lit (pos 9))))
    (rel_and (rel_compare Gt (term_var 4) (term_var 1)) (rel_compare Lt (term_var 1) (term_lit (pos 9)))))
in_chain_holds = refl

in_chain_fails : fails in_chain ≡
    rel_or
    (rel_or
    (rel_and (rel_compare Le (term_var 4) (term_var 1)) (rel_not (rel_compare Le (term_var 0) (term_var 4))))
    (rel_and (rel_compare Gt (term_var 4) (term_var 1)) (rel_not (rel_compare Le (term_var 0) (term_var 1)))))
    (rel_or
    (rel_and (rel_compare Le (term_var 4) (term_var 1)) (rel_not (rel_compare Lt (term_var 4) (term_lit (pos 9)))))
    (rel_and (rel_compare Gt (term_var 4) (term_var 1)) (rel_not (rel_compare Lt (term_var 1) (term_lit (pos 9))))))
in_chain_fails = refl
