-- Worked examples that hold down which relation a wide relation stands for, and which its negation does.
use Rattle.std.specs.Prelude.{pos, true, false, List, ◌≡◌, [], ◌∷◌, refl}
use Rattle.cf_tree.specs.declared.base.Base.{Base}
use Rattle.cf_tree.specs.declared.base.Base.TheVariants.{Int, Bool as Truth, Set}
use Rattle.cf_tree.specs.ExprTree.{ExprTree, expr_binary, expr_chain, expr_divides, expr_if, expr_lit, expr_not, expr_truth, expr_var, exprs_of}
use Rattle.cf_tree.specs.RelTree.{RelTree, rel_and, rel_compare, rel_divides, rel_false, rel_not, rel_or, rel_other_set, rel_same_set, rel_subset, rel_true, set_var, term_lit, term_var}
use Rattle.cf_tree.specs.declared.base.Order.TheVariants.{Eq, Ge, Gt, Le, Lt, Ne}
use Rattle.cf_tree.specs.declared.raw.BinOp.TheVariants.{And, Compare, Implies, Or, Subset}
use Rattle.cf_form.specs.Expansion.{wide_of}
use Rattle.cf_form.specs.Polarity.{failing, holding}
use Rattle.cf_form.specs.Branches.{values_in}

-- parameters a, b, s, t, and outputs x, u, p, q
abbrev bases : List Base
bases = Int ∷ Int ∷ Set ∷ Set ∷ Int ∷ Set ∷ Truth ∷ Truth ∷ []

abbrev holds : ExprTree → RelTree
holds e = holding (values_in []) (wide_of [] bases e)

abbrev fails : ExprTree → RelTree
fails e = failing (values_in []) (wide_of [] bases e)

-- `true`
abbrev always : ExprTree
always = expr_truth true

always_holds : holds always ≡ rel_true
always_holds = refl

always_fails : fails always ≡ rel_not rel_true
always_fails = refl

-- `false`
abbrev never : ExprTree
never = expr_truth false

never_holds : holds never ≡ rel_false
never_holds = refl

never_fails : fails never ≡ rel_not rel_false
never_fails = refl

-- `x <= a && (2 divides x || !(u == s))`
abbrev plain : ExprTree
plain =
    expr_binary And
    (expr_binary (Compare Le) (expr_var 4) (expr_var 0))
    (expr_binary Or (expr_divides (pos 2) (expr_var 4)) (expr_not (expr_binary (Compare Eq) (expr_var 5) (expr_var 2))))

plain_holds : holds plain ≡
    rel_and (rel_compare Le (term_var 4) (term_var 0)) (rel_or (rel_divides (pos 2) (term_var 4)) (rel_not (rel_same_set (set_var 5) (set_var 2))))
plain_holds = refl

plain_fails : fails plain ≡
    rel_not
    (rel_and (rel_compare Le (term_var 4) (term_var 0)) (rel_or (rel_divides (pos 2) (term_var 4)) (rel_not (rel_same_set (set_var 5) (set_var 2)))))
plain_fails = refl

-- `!(x <= a)`
abbrev plain_not : ExprTree
plain_not = expr_not (expr_binary (Compare Le) (expr_var 4) (expr_var 0))

plain_not_holds : holds plain_not ≡ rel_not (rel_compare Le (term_var 4) (term_var 0))
plain_not_holds = refl

plain_not_fails : fails plain_not ≡ rel_not (rel_not (rel_compare Le (term_var 4) (term_var 0)))
plain_not_fails = refl

-- `u != s || u subset t`
abbrev plain_or : ExprTree
plain_or = expr_binary Or (expr_binary (Compare Ne) (expr_var 5) (expr_var 2)) (expr_binary Subset (expr_var 5) (expr_var 3))

plain_or_holds : holds plain_or ≡ rel_or (rel_other_set (set_var 5) (set_var 2)) (rel_subset (set_var 5) (set_var 3))
plain_or_holds = refl

plain_or_fails : fails plain_or ≡ rel_not (rel_or (rel_other_set (set_var 5) (set_var 2)) (rel_subset (set_var 5) (set_var 3)))
plain_or_fails = refl

-- `p`
abbrev truth : ExprTree
truth = expr_var 6

truth_holds : holds truth ≡ rel_compare Ge (term_var 6) (term_lit (pos 1))
truth_holds = refl

truth_fails : fails truth ≡ rel_not (rel_compare Ge (term_var 6) (term_lit (pos 1)))
truth_fails = refl

-- `!p`
abbrev negated : ExprTree
negated = expr_not (expr_var 6)

negated_holds : holds negated ≡ rel_not (rel_compare Ge (term_var 6) (term_lit (pos 1)))
negated_holds = refl

negated_fails : fails negated ≡ rel_compare Ge (term_var 6) (term_lit (pos 1))
negated_fails = refl

-- `p && x == 1`
abbrev both : ExprTree
both = expr_binary And (expr_var 6) (expr_binary (Compare Eq) (expr_var 4) (expr_lit (pos 1)))

both_holds : holds both ≡ rel_and (rel_compare Ge (term_var 6) (term_lit (pos 1))) (rel_compare Eq (term_var 4) (term_lit (pos 1)))
both_holds = refl

both_fails : fails both ≡ rel_or (rel_not (rel_compare Ge (term_var 6) (term_lit (pos 1)))) (rel_not (rel_compare Eq (term_var 4) (term_lit (pos 1))))
both_fails = refl

-- `p || x == 1`
abbrev either : ExprTree
either = expr_binary Or (expr_var 6) (expr_binary (Compare Eq) (expr_var 4) (expr_lit (pos 1)))

either_holds : holds either ≡ rel_or (rel_compare Ge (term_var 6) (term_lit (pos 1))) (rel_compare Eq (term_var 4) (term_lit (pos 1)))
either_holds = refl

either_fails : fails either ≡ rel_and (rel_not (rel_compare Ge (term_var 6) (term_lit (pos 1)))) (rel_not (rel_compare Eq (term_var 4) (term_lit (pos 1))))
either_fails = refl

-- `p && !(x == 1 && a == b)`
abbrev plain_within : ExprTree
plain_within =
    expr_binary And (expr_var 6)
    (expr_not (expr_binary And (expr_binary (Compare Eq) (expr_var 4) (expr_lit (pos 1))) (expr_binary (Compare Eq) (expr_var 0) (expr_var 1))))

plain_within_holds : holds plain_within ≡
    rel_and
    (rel_compare Ge (term_var 6) (term_lit (pos 1)))
    (rel_not (rel_and (rel_compare Eq (term_var 4) (term_lit (pos 1))) (rel_compare Eq (term_var 0) (term_var 1))))
plain_within_holds = refl

plain_within_fails : fails plain_within ≡
    rel_or
    (rel_not (rel_compare Ge (term_var 6) (term_lit (pos 1))))
    (rel_not (rel_not (rel_and (rel_compare Eq (term_var 4) (term_lit (pos 1))) (rel_compare Eq (term_var 0) (term_var 1)))))
plain_within_fails = refl

-- `!(p && (x == 1 || a == b))`
abbrev deep : ExprTree
deep =
    expr_not
    (expr_binary And (expr_var 6)
    (expr_binary Or (expr_binary (Compare Eq) (expr_var 4) (expr_lit (pos 1))) (expr_binary (Compare Eq) (expr_var 0) (expr_var 1))))

deep_holds : holds deep ≡
    rel_or
    (rel_not (rel_compare Ge (term_var 6) (term_lit (pos 1))))
    (rel_not (rel_or (rel_compare Eq (term_var 4) (term_lit (pos 1))) (rel_compare Eq (term_var 0) (term_var 1))))
deep_holds = refl

deep_fails : fails deep ≡
    rel_and
    (rel_compare Ge (term_var 6) (term_lit (pos 1)))
    (rel_or (rel_compare Eq (term_var 4) (term_lit (pos 1))) (rel_compare Eq (term_var 0) (term_var 1)))
deep_fails = refl

-- `x == 1 && p`
abbrev plain_first : ExprTree
plain_first = expr_binary And (expr_binary (Compare Eq) (expr_var 4) (expr_lit (pos 1))) (expr_var 6)

plain_first_holds : holds plain_first ≡ rel_and (rel_compare Eq (term_var 4) (term_lit (pos 1))) (rel_compare Ge (term_var 6) (term_lit (pos 1)))
plain_first_holds = refl

plain_first_fails : fails plain_first ≡
    rel_or (rel_not (rel_compare Eq (term_var 4) (term_lit (pos 1)))) (rel_not (rel_compare Ge (term_var 6) (term_lit (pos 1))))
plain_first_fails = refl

-- `x == 1 || p`
abbrev plain_first_or : ExprTree
plain_first_or = expr_binary Or (expr_binary (Compare Eq) (expr_var 4) (expr_lit (pos 1))) (expr_var 6)

plain_first_or_holds : holds plain_first_or ≡ rel_or (rel_compare Eq (term_var 4) (term_lit (pos 1))) (rel_compare Ge (term_var 6) (term_lit (pos 1)))
plain_first_or_holds = refl

plain_first_or_fails : fails plain_first_or ≡
    rel_and (rel_not (rel_compare Eq (term_var 4) (term_lit (pos 1)))) (rel_not (rel_compare Ge (term_var 6) (term_lit (pos 1))))
plain_first_or_fails = refl

-- `!(x == 1 && a == b)`
abbrev not_plain : ExprTree
not_plain = expr_not (expr_binary And (expr_binary (Compare Eq) (expr_var 4) (expr_lit (pos 1))) (expr_binary (Compare Eq) (expr_var 0) (expr_var 1)))

not_plain_holds : holds not_plain ≡ rel_not (rel_and (rel_compare Eq (term_var 4) (term_lit (pos 1))) (rel_compare Eq (term_var 0) (term_var 1)))
not_plain_holds = refl

not_plain_fails : fails not_plain ≡ rel_not (rel_not (rel_and (rel_compare Eq (term_var 4) (term_lit (pos 1))) (rel_compare Eq (term_var 0) (term_var 1))))
not_plain_fails = refl

-- `!(q || x == 1)`
abbrev not_other : ExprTree
not_other = expr_not (expr_binary Or (expr_var 7) (expr_binary (Compare Eq) (expr_var 4) (expr_lit (pos 1))))

not_other_holds : holds not_other ≡
    rel_and (rel_not (rel_compare Ge (term_var 7) (term_lit (pos 1)))) (rel_not (rel_compare Eq (term_var 4) (term_lit (pos 1))))
not_other_holds = refl

not_other_fails : fails not_other ≡ rel_or (rel_compare Ge (term_var 7) (term_lit (pos 1))) (rel_compare Eq (term_var 4) (term_lit (pos 1)))
not_other_fails = refl

-- `p ==> x == 1`
abbrev implied : ExprTree
implied = expr_binary Implies (expr_var 6) (expr_binary (Compare Eq) (expr_var 4) (expr_lit (pos 1)))

implied_holds : holds implied ≡ rel_or (rel_not (rel_compare Ge (term_var 6) (term_lit (pos 1)))) (rel_compare Eq (term_var 4) (term_lit (pos 1)))
implied_holds = refl

implied_fails : fails implied ≡ rel_and (rel_compare Ge (term_var 6) (term_lit (pos 1))) (rel_not (rel_compare Eq (term_var 4) (term_lit (pos 1))))
implied_fails = refl

-- `p == q`
abbrev same : ExprTree
same = expr_binary (Compare Eq) (expr_var 6) (expr_var 7)

same_holds : holds same ≡
    rel_or
    (rel_and (rel_compare Ge (term_var 6) (term_lit (pos 1))) (rel_compare Ge (term_var 7) (term_lit (pos 1))))
    (rel_and (rel_not (rel_compare Ge (term_var 6) (term_lit (pos 1)))) (rel_not (rel_compare Ge (term_var 7) (term_lit (pos 1)))))
same_holds = refl

same_fails : fails same ≡
    rel_or
    (rel_and (rel_compare Ge (term_var 6) (term_lit (pos 1))) (rel_not (rel_compare Ge (term_var 7) (term_lit (pos 1)))))
    (rel_and (rel_not (rel_compare Ge (term_var 6) (term_lit (pos 1)))) (rel_compare Ge (term_var 7) (term_lit (pos 1))))
same_fails = refl

-- `p != (x == 1)`
abbrev other : ExprTree
other = expr_binary (Compare Ne) (expr_var 6) (expr_binary (Compare Eq) (expr_var 4) (expr_lit (pos 1)))

other_holds : holds other ≡
    rel_or
    (rel_and (rel_compare Ge (term_var 6) (term_lit (pos 1))) (rel_not (rel_compare Eq (term_var 4) (term_lit (pos 1)))))
    (rel_and (rel_not (rel_compare Ge (term_var 6) (term_lit (pos 1)))) (rel_compare Eq (term_var 4) (term_lit (pos 1))))
other_holds = refl

other_fails : fails other ≡
    rel_or
    (rel_and (rel_compare Ge (term_var 6) (term_lit (pos 1))) (rel_compare Eq (term_var 4) (term_lit (pos 1))))
    (rel_and (rel_not (rel_compare Ge (term_var 6) (term_lit (pos 1)))) (rel_not (rel_compare Eq (term_var 4) (term_lit (pos 1)))))
other_fails = refl

-- `if p then q else x == 1`
abbrev tested : ExprTree
tested = expr_if (expr_var 6) (expr_var 7) (expr_binary (Compare Eq) (expr_var 4) (expr_lit (pos 1)))

tested_holds : holds tested ≡
    rel_or
    (rel_and (rel_compare Ge (term_var 6) (term_lit (pos 1))) (rel_compare Ge (term_var 7) (term_lit (pos 1))))
    (rel_and (rel_not (rel_compare Ge (term_var 6) (term_lit (pos 1)))) (rel_compare Eq (term_var 4) (term_lit (pos 1))))
tested_holds = refl

tested_fails : fails tested ≡
    rel_or
    (rel_and (rel_compare Ge (term_var 6) (term_lit (pos 1))) (rel_not (rel_compare Ge (term_var 7) (term_lit (pos 1)))))
    (rel_and (rel_not (rel_compare Ge (term_var 6) (term_lit (pos 1)))) (rel_not (rel_compare Eq (term_var 4) (term_lit (pos 1)))))
tested_fails = refl

-- `a <= x < b`
abbrev three : ExprTree
three = expr_chain (Le ∷ Lt ∷ []) (exprs_of (expr_var 0 ∷ expr_var 4 ∷ expr_var 1 ∷ []))

three_holds : holds three ≡ rel_and (rel_compare Le (term_var 0) (term_var 4)) (rel_compare Lt (term_var 4) (term_var 1))
three_holds = refl

three_fails : fails three ≡ rel_or (rel_not (rel_compare Le (term_var 0) (term_var 4))) (rel_not (rel_compare Lt (term_var 4) (term_var 1)))
three_fails = refl

-- `a <= x == b < 9`
abbrev four : ExprTree
four = expr_chain (Le ∷ Eq ∷ Lt ∷ []) (exprs_of (expr_var 0 ∷ expr_var 4 ∷ expr_var 1 ∷ expr_lit (pos 9) ∷ []))

four_holds : holds four ≡
    rel_and (rel_compare Le (term_var 0) (term_var 4)) (rel_and (rel_compare Eq (term_var 4) (term_var 1)) (rel_compare Lt (term_var 1) (term_lit (pos 9))))
four_holds = refl

four_fails : fails four ≡
    rel_or
    (rel_not (rel_compare Le (term_var 0) (term_var 4)))
    (rel_or (rel_not (rel_compare Eq (term_var 4) (term_var 1))) (rel_not (rel_compare Lt (term_var 1) (term_lit (pos 9)))))
four_fails = refl

-- `a >= x == b > 9 >= 3`
abbrev five : ExprTree
five = expr_chain (Ge ∷ Eq ∷ Gt ∷ Ge ∷ []) (exprs_of (expr_var 0 ∷ expr_var 4 ∷ expr_var 1 ∷ expr_lit (pos 9) ∷ expr_lit (pos 3) ∷ []))

five_holds : holds five ≡
    rel_and
    (rel_and (rel_compare Ge (term_var 0) (term_var 4)) (rel_compare Eq (term_var 4) (term_var 1)))
    (rel_and (rel_compare Gt (term_var 1) (term_lit (pos 9))) (rel_compare Ge (term_lit (pos 9)) (term_lit (pos 3))))
five_holds = refl

five_fails : fails five ≡
    rel_or
    (rel_or (rel_not (rel_compare Ge (term_var 0) (term_var 4))) (rel_not (rel_compare Eq (term_var 4) (term_var 1))))
    (rel_or (rel_not (rel_compare Gt (term_var 1) (term_lit (pos 9)))) (rel_not (rel_compare Ge (term_lit (pos 9)) (term_lit (pos 3)))))
five_fails = refl

-- `a < x < b < 9 < 10 < 11`
abbrev six : ExprTree
six =
    expr_chain (Lt ∷ Lt ∷ Lt ∷ Lt ∷ Lt ∷ [])
    (exprs_of (expr_var 0 ∷ expr_var 4 ∷ expr_var 1 ∷ expr_lit (pos 9) ∷ expr_lit (pos 10) ∷ expr_lit (pos 11) ∷ []))

six_holds : holds six ≡
    rel_and
    (rel_and (rel_compare Lt (term_var 0) (term_var 4)) (rel_compare Lt (term_var 4) (term_var 1)))
    (rel_and
    (rel_compare Lt (term_var 1) (term_lit (pos 9)))
    (rel_and (rel_compare Lt (term_lit (pos 9)) (term_lit (pos 10))) (rel_compare Lt (term_lit (pos 10)) (term_lit (pos 11)))))
six_holds = refl

six_fails : fails six ≡
    rel_or
    (rel_or (rel_not (rel_compare Lt (term_var 0) (term_var 4))) (rel_not (rel_compare Lt (term_var 4) (term_var 1))))
    (rel_or
    (rel_not (rel_compare Lt (term_var 1) (term_lit (pos 9))))
    (rel_or (rel_not (rel_compare Lt (term_lit (pos 9)) (term_lit (pos 10)))) (rel_not (rel_compare Lt (term_lit (pos 10)) (term_lit (pos 11))))))
six_fails = refl
