-- Worked examples that hold down the formed trees of chains, `min`, `max` and `==>` in ordinary code.
use Rattle.std.specs.Prelude.{ℕ, pos, List, ◌≡◌, [], ◌∷◌, codes, refl}
use Rattle.cf_tree.specs.declared.base.Base.{Base}
use Rattle.cf_tree.specs.declared.base.Base.TheVariants.{Int, Bool as Truth}
use Rattle.cf_tree.specs.ExprTree.{ExprTree, expr_abs, expr_binary, expr_call, expr_card, expr_chain, expr_div, expr_divides, expr_if, expr_let, expr_lit, expr_match, expr_max, expr_min, expr_mod, expr_neg, expr_not, expr_set_of, expr_tuple, expr_var, exprs_of, match_arm, match_arms_of}
use Rattle.cf_tree.specs.declared.base.Order.TheVariants.{Eq, Ge, Gt, Le, Lt}
use Rattle.cf_tree.specs.declared.raw.BinOp.TheVariants.{Add, And, Compare, Implies, Mul, Or, Sub}
use Rattle.cf_tree.specs.declared.raw.Param.{Param}
use Rattle.cf_form.specs.Expansion.{call_expanded}
use Rattle.cf_form.specs.Formed.{formed}

abbrev v : List ℕ → Base → Param
v name base = record { place = record { line = 1; column = 1 }; name = name; base = base }

-- no function stands before, and five variables are in scope
abbrev form : ExprTree → ExprTree
form e = formed (call_expanded []) 5 e

-- `p ==> q`
abbrev implied : ExprTree
implied = expr_binary Implies (expr_var 3) (expr_var 4)

implied_formed : form implied ≡ expr_binary Or (expr_not (expr_var 3)) (expr_var 4)
implied_formed = refl

-- `a <= b < c`
abbrev chained : ExprTree
chained = expr_chain (Le ∷ Lt ∷ []) (exprs_of (expr_var 0 ∷ expr_var 1 ∷ expr_var 2 ∷ []))

chained_formed : form chained ≡
    expr_let 3
    (expr_tuple (exprs_of (expr_var 0 ∷ expr_var 1 ∷ expr_var 2 ∷ [])))
    (expr_binary And (expr_binary (Compare Le) (expr_var 5) (expr_var 6)) (expr_binary (Compare Lt) (expr_var 6) (expr_var 7)))
chained_formed = refl

-- `a == b == c > 1 >= -2`
abbrev chained_four : ExprTree
chained_four = expr_chain (Eq ∷ Eq ∷ Gt ∷ Ge ∷ []) (exprs_of (expr_var 0 ∷ expr_var 1 ∷ expr_var 2 ∷ expr_lit (pos 1) ∷ expr_neg (expr_lit (pos 2)) ∷ []))

chained_four_formed : form chained_four ≡
    expr_let 5
    (expr_tuple (exprs_of (expr_var 0 ∷ expr_var 1 ∷ expr_var 2 ∷ expr_lit (pos 1) ∷ expr_neg (expr_lit (pos 2)) ∷ [])))
    (expr_binary And
    (expr_binary And (expr_binary (Compare Eq) (expr_var 5) (expr_var 6)) (expr_binary (Compare Eq) (expr_var 6) (expr_var 7)))
    (expr_binary And (expr_binary (Compare Gt) (expr_var 7) (expr_var 8)) (expr_binary (Compare Ge) (expr_var 8) (expr_var 9))))
chained_four_formed = refl

-- `min(a, b)`
abbrev least : ExprTree
least = expr_min (exprs_of (expr_var 0 ∷ expr_var 1 ∷ []))

least_formed : form least ≡
    expr_let 2
    (expr_tuple (exprs_of (expr_var 0 ∷ expr_var 1 ∷ [])))
    (expr_if (expr_binary (Compare Le) (expr_var 5) (expr_var 6)) (expr_var 5) (expr_var 6))
least_formed = refl

-- `max(a, b)`
abbrev greatest : ExprTree
greatest = expr_max (exprs_of (expr_var 0 ∷ expr_var 1 ∷ []))

greatest_formed : form greatest ≡
    expr_let 2
    (expr_tuple (exprs_of (expr_var 0 ∷ expr_var 1 ∷ [])))
    (expr_if (expr_binary (Compare Ge) (expr_var 5) (expr_var 6)) (expr_var 5) (expr_var 6))
greatest_formed = refl

-- `min(a, b, c)`
abbrev least_of_three : ExprTree
least_of_three = expr_min (exprs_of (expr_var 0 ∷ expr_var 1 ∷ expr_var 2 ∷ []))

least_of_three_formed : form least_of_three ≡
    expr_let 3
    (expr_tuple (exprs_of (expr_var 0 ∷ expr_var 1 ∷ expr_var 2 ∷ [])))
    (expr_let 1
    (expr_if (expr_binary (Compare Le) (expr_var 5) (expr_var 6)) (expr_var 5) (expr_var 6))
    (expr_if (expr_binary (Compare Le) (expr_var 8) (expr_var 7)) (expr_var 8) (expr_var 7)))
least_of_three_formed = refl

-- `max(a, b, c, 7, -7)`
abbrev greatest_of_five : ExprTree
greatest_of_five = expr_max (exprs_of (expr_var 0 ∷ expr_var 1 ∷ expr_var 2 ∷ expr_lit (pos 7) ∷ expr_neg (expr_lit (pos 7)) ∷ []))

greatest_of_five_formed : form greatest_of_five ≡
    expr_let 5
    (expr_tuple (exprs_of (expr_var 0 ∷ expr_var 1 ∷ expr_var 2 ∷ expr_lit (pos 7) ∷ expr_neg (expr_lit (pos 7)) ∷ [])))
    (expr_let 1
    (expr_if (expr_binary (Compare Ge) (expr_var 5) (expr_var 6)) (expr_var 5) (expr_var 6))
    (expr_let 1
    (expr_if (expr_binary (Compare Ge) (expr_var 10) (expr_var 7)) (expr_var 10) (expr_var 7))
    (expr_let 1
    (expr_if (expr_binary (Compare Ge) (expr_var 11) (expr_var 8)) (expr_var 11) (expr_var 8))
    (expr_if (expr_binary (Compare Ge) (expr_var 12) (expr_var 9)) (expr_var 12) (expr_var 9)))))
greatest_of_five_formed = refl

-- `min(min(a, b), c)`
abbrev in_parts : ExprTree
in_parts = expr_min (exprs_of (expr_min (exprs_of (expr_var 0 ∷ expr_var 1 ∷ [])) ∷ expr_var 2 ∷ []))

in_parts_formed : form in_parts ≡
    expr_let 2
    (expr_tuple
    (exprs_of
    (expr_let 2
    (expr_tuple (exprs_of (expr_var 0 ∷ expr_var 1 ∷ [])))
    (expr_if (expr_binary (Compare Le) (expr_var 5) (expr_var 6)) (expr_var 5) (expr_var 6))
    ∷ expr_var 2 ∷ [])))
    (expr_if (expr_binary (Compare Le) (expr_var 5) (expr_var 6)) (expr_var 5) (expr_var 6))
in_parts_formed = refl

-- `let (x, y) = (a, b) in min(x, y) + 1`
abbrev behind_lets : ExprTree
behind_lets =
    expr_let 2
    (expr_tuple (exprs_of (expr_var 0 ∷ expr_var 1 ∷ [])))
    (expr_binary Add (expr_min (exprs_of (expr_var 5 ∷ expr_var 6 ∷ []))) (expr_lit (pos 1)))

behind_lets_formed : form behind_lets ≡
    expr_let 2
    (expr_tuple (exprs_of (expr_var 0 ∷ expr_var 1 ∷ [])))
    (expr_binary Add
    (expr_let 2
    (expr_tuple (exprs_of (expr_var 5 ∷ expr_var 6 ∷ [])))
    (expr_if (expr_binary (Compare Le) (expr_var 7) (expr_var 8)) (expr_var 7) (expr_var 8)))
    (expr_lit (pos 1)))
behind_lets_formed = refl

-- `card({max(a, b)}) + abs(min(a, b)) + div(min(a, b), 2) - mod(max(a, b), 3) * -min(a, 1)`
abbrev in_all_forms : ExprTree
in_all_forms =
    expr_binary Sub
    (expr_binary Add
    (expr_binary Add
    (expr_card (expr_set_of (exprs_of (expr_max (exprs_of (expr_var 0 ∷ expr_var 1 ∷ [])) ∷ []))))
    (expr_abs (expr_min (exprs_of (expr_var 0 ∷ expr_var 1 ∷ [])))))
    (expr_div (expr_min (exprs_of (expr_var 0 ∷ expr_var 1 ∷ []))) (pos 2)))
    (expr_binary Mul
    (expr_mod (expr_max (exprs_of (expr_var 0 ∷ expr_var 1 ∷ []))) (pos 3))
    (expr_neg (expr_min (exprs_of (expr_var 0 ∷ expr_lit (pos 1) ∷ [])))))

in_all_forms_formed : form in_all_forms ≡
    expr_binary Sub
    (expr_binary Add
    (expr_binary Add
    (expr_card
    (expr_set_of
    (exprs_of
    (expr_let 2
    (expr_tuple (exprs_of (expr_var 0 ∷ expr_var 1 ∷ [])))
    (expr_if (expr_binary (Compare Ge) (expr_var 5) (expr_var 6)) (expr_var 5) (expr_var 6)) ∷ []))))
    (expr_abs
    (expr_let 2
    (expr_tuple (exprs_of (expr_var 0 ∷ expr_var 1 ∷ [])))
    (expr_if (expr_binary (Compare Le) (expr_var 5) (expr_var 6)) (expr_var 5) (expr_var 6)))))
    (expr_div
    (expr_let 2
    (expr_tuple (exprs_of (expr_var 0 ∷ expr_var 1 ∷ [])))
    (expr_if (expr_binary (Compare Le) (expr_var 5) (expr_var 6)) (expr_var 5) (expr_var 6)))
    (pos 2)))
    (expr_binary Mul
    (expr_mod
    (expr_let 2
    (expr_tuple (exprs_of (expr_var 0 ∷ expr_var 1 ∷ [])))
    (expr_if (expr_binary (Compare Ge) (expr_var 5) (expr_var 6)) (expr_var 5) (expr_var 6)))
    (pos 3))
    (expr_neg
    (expr_let 2
    (expr_tuple (exprs_of (expr_var 0 ∷ expr_lit (pos 1) ∷ [])))
    (expr_if (expr_binary (Compare Le) (expr_var 5) (expr_var 6)) (expr_var 5) (expr_var 6)))))
in_all_forms_formed = refl

-- `!(a < b < c) && (if a <= b <= c then 2 divides min(a, b) else p ==> q)`
abbrev in_truths : ExprTree
in_truths =
    expr_binary And
    (expr_not (expr_chain (Lt ∷ Lt ∷ []) (exprs_of (expr_var 0 ∷ expr_var 1 ∷ expr_var 2 ∷ []))))
    (expr_if
    (expr_chain (Le ∷ Le ∷ []) (exprs_of (expr_var 0 ∷ expr_var 1 ∷ expr_var 2 ∷ [])))
    (expr_divides (pos 2) (expr_min (exprs_of (expr_var 0 ∷ expr_var 1 ∷ []))))
    (expr_binary Implies (expr_var 3) (expr_var 4)))

in_truths_formed : form in_truths ≡
    expr_binary And
    (expr_not
    (expr_let 3
    (expr_tuple (exprs_of (expr_var 0 ∷ expr_var 1 ∷ expr_var 2 ∷ [])))
    (expr_binary And (expr_binary (Compare Lt) (expr_var 5) (expr_var 6)) (expr_binary (Compare Lt) (expr_var 6) (expr_var 7)))))
    (expr_if
    (expr_let 3
    (expr_tuple (exprs_of (expr_var 0 ∷ expr_var 1 ∷ expr_var 2 ∷ [])))
    (expr_binary And (expr_binary (Compare Le) (expr_var 5) (expr_var 6)) (expr_binary (Compare Le) (expr_var 6) (expr_var 7))))
    (expr_divides (pos 2)
    (expr_let 2
    (expr_tuple (exprs_of (expr_var 0 ∷ expr_var 1 ∷ [])))
    (expr_if (expr_binary (Compare Le) (expr_var 5) (expr_var 6)) (expr_var 5) (expr_var 6))))
    (expr_binary Or (expr_not (expr_var 3)) (expr_var 4)))
in_truths_formed = refl

-- `least(min(a, b), c)`
abbrev in_call : ExprTree
in_call = expr_call 1 (exprs_of (expr_min (exprs_of (expr_var 0 ∷ expr_var 1 ∷ [])) ∷ expr_var 2 ∷ []))

in_call_formed : form in_call ≡
    expr_call 1
    (exprs_of
    (expr_let 2
    (expr_tuple (exprs_of (expr_var 0 ∷ expr_var 1 ∷ [])))
    (expr_if (expr_binary (Compare Le) (expr_var 5) (expr_var 6)) (expr_var 5) (expr_var 6))
    ∷ expr_var 2 ∷ []))
in_call_formed = refl

-- `(min(a, b), p ==> q)`
abbrev in_tuple : ExprTree
in_tuple = expr_tuple (exprs_of (expr_min (exprs_of (expr_var 0 ∷ expr_var 1 ∷ [])) ∷ expr_binary Implies (expr_var 3) (expr_var 4) ∷ []))

in_tuple_formed : form in_tuple ≡
    expr_tuple
    (exprs_of
    (expr_let 2
    (expr_tuple (exprs_of (expr_var 0 ∷ expr_var 1 ∷ [])))
    (expr_if (expr_binary (Compare Le) (expr_var 5) (expr_var 6)) (expr_var 5) (expr_var 6))
    ∷ expr_binary Or (expr_not (expr_var 3)) (expr_var 4) ∷ []))
in_tuple_formed = refl

-- `match min(a, b) with { 2 * i + j then max(i, j) ; 3 then min(a, 1) }`
abbrev in_match : ExprTree
in_match =
    expr_match 1
    (v (codes "a") Int ∷ v (codes "b") Int ∷ v (codes "c") Int ∷ v (codes "p") Truth ∷ v (codes "q") Truth ∷ v (codes "match") Int ∷ [])
    (expr_min (exprs_of (expr_var 0 ∷ expr_var 1 ∷ [])))
    (match_arms_of
    (match_arm 2 (pos 2 ∷ pos 1 ∷ []) (pos 0) (expr_max (exprs_of (expr_var 6 ∷ expr_var 7 ∷ [])))
    ∷ match_arm 0 [] (pos 3) (expr_min (exprs_of (expr_var 0 ∷ expr_lit (pos 1) ∷ []))) ∷ []))

in_match_formed : form in_match ≡
    expr_match 1
    (v (codes "a") Int ∷ v (codes "b") Int ∷ v (codes "c") Int ∷ v (codes "p") Truth ∷ v (codes "q") Truth ∷ v (codes "match") Int ∷ [])
    (expr_let 2
    (expr_tuple (exprs_of (expr_var 0 ∷ expr_var 1 ∷ [])))
    (expr_if (expr_binary (Compare Le) (expr_var 5) (expr_var 6)) (expr_var 5) (expr_var 6)))
    (match_arms_of
    (match_arm 2 (pos 2 ∷ pos 1 ∷ []) (pos 0)
    (expr_let 2
    (expr_tuple (exprs_of (expr_var 6 ∷ expr_var 7 ∷ [])))
    (expr_if (expr_binary (Compare Ge) (expr_var 8) (expr_var 9)) (expr_var 8) (expr_var 9)))
    ∷ match_arm 0 [] (pos 3)
    (expr_let 2
    (expr_tuple (exprs_of (expr_var 0 ∷ expr_lit (pos 1) ∷ [])))
    (expr_if (expr_binary (Compare Le) (expr_var 6) (expr_var 7)) (expr_var 6) (expr_var 7))) ∷ []))
in_match_formed = refl
