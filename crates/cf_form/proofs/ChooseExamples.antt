-- Worked examples that hold down the formed choose: outputs as numbers, hidden ones, conditions, branches, and what is folded in them.
use Rattle.std.specs.Prelude.{ℕ, pos, true, false, List, ◌≡◌, [], ◌∷◌, codes, refl}
use Rattle.cf_tree.specs.declared.base.Base.{Base}
use Rattle.cf_tree.specs.declared.base.Base.TheVariants.{Int, Bool as Truth, Set}
use Rattle.cf_tree.specs.ExprTree.{ExprTree, at_any, at_least, expr_binary, expr_call, expr_card, expr_chain, expr_choose, expr_choose_where, expr_if, expr_let, expr_lit, expr_min, expr_not, expr_set_of, expr_truth, expr_tuple, expr_var, exprs_of, holds_always, holds_where, no_exprs}
use Rattle.cf_tree.specs.RelTree.{empty_set, rel_and, rel_compare, rel_false, rel_not, rel_or, rel_other_set, rel_same_set, rel_subset, rel_true, set_var, term_add, term_card, term_lit, term_mul, term_var}
use Rattle.cf_tree.specs.declared.base.Order.TheVariants.{Eq, Ge, Gt, Le, Lt, Ne}
use Rattle.cf_tree.specs.declared.raw.BinOp.TheVariants.{Add, And, Compare, Implies, Mul, Or, Subset}
use Rattle.cf_tree.specs.declared.raw.Param.{Param}
use Rattle.cf_form.specs.Expansion.{call_expanded}
use Rattle.cf_form.specs.Formed.{formed}

-- `def ordered_sum(x: int, y: int): int = let (u, v) = if x <= y then (x, y) else (y, x) in u + 2 * v`
abbrev ordered_sum_body : ExprTree
ordered_sum_body =
    expr_let 2
    (expr_if
    (expr_binary (Compare Le) (expr_var 0) (expr_var 1))
    (expr_tuple (exprs_of (expr_var 0 ∷ expr_var 1 ∷ [])))
    (expr_tuple (exprs_of (expr_var 1 ∷ expr_var 0 ∷ []))))
    (expr_binary Add (expr_var 2) (expr_binary Mul (expr_lit (pos 2)) (expr_var 3)))

-- `def known(t: int): bool = let k = 3 in k * t == 6`
abbrev known_body : ExprTree
known_body = expr_let 1 (expr_lit (pos 3)) (expr_binary (Compare Eq) (expr_binary Mul (expr_var 1) (expr_var 0)) (expr_lit (pos 6)))

-- last first
abbrev functions : List ExprTree
functions = known_body ∷ ordered_sum_body ∷ []

abbrev v : List ℕ → Base → Param
v name base = record { place = record { line = 1; column = 1 }; name = name; base = base }

-- two numbers, two truth values and a set
abbrev scope : List Param
scope = v (codes "a") Int ∷ v (codes "b") Int ∷ v (codes "p") Truth ∷ v (codes "q") Truth ∷ v (codes "s") Set ∷ []

abbrev form : ExprTree → ExprTree
form e = formed (call_expanded functions) 5 e

-- `choose (x: int) where true && x == a`
abbrev plain : ExprTree
plain = expr_choose_where 1 scope (Int ∷ []) [] holds_always (expr_binary And (expr_truth true) (expr_binary (Compare Eq) (expr_var 5) (expr_var 0))) at_any

plain_formed : form plain ≡ expr_choose 1 scope (Int ∷ []) (rel_and rel_true (rel_compare Eq (term_var 5) (term_var 0)))
plain_formed = refl

-- `choose (x: int, u: set) where u == s && card(u) == x`
abbrev number_and_set : ExprTree
number_and_set =
    expr_choose_where 1 scope (Int ∷ Set ∷ []) [] holds_always
    (expr_binary And (expr_binary (Compare Eq) (expr_var 6) (expr_var 4)) (expr_binary (Compare Eq) (expr_card (expr_var 6)) (expr_var 5)))
    at_any

number_and_set_formed : form number_and_set ≡
    expr_choose 1 scope (Int ∷ Set ∷ []) (rel_and (rel_same_set (set_var 6) (set_var 4)) (rel_compare Eq (term_card (set_var 6)) (term_var 5)))
number_and_set_formed = refl

-- `choose (r: bool) where r == (a <= b)`
abbrev truth : ExprTree
truth =
    expr_choose_where 1 scope (Truth ∷ []) [] holds_always
    (expr_binary (Compare Eq) (expr_var 5) (expr_binary (Compare Le) (expr_var 0) (expr_var 1)))
    at_any

truth_formed : form truth ≡
    expr_let 1
    (expr_choose 1 scope (Int ∷ [])
    (rel_and
    (rel_compare Le (term_lit (pos 0)) (term_var 5))
    (rel_and
    (rel_compare Le (term_var 5) (term_lit (pos 1)))
    (rel_or
    (rel_and (rel_compare Ge (term_var 5) (term_lit (pos 1))) (rel_compare Le (term_var 0) (term_var 1)))
    (rel_and (rel_not (rel_compare Ge (term_var 5) (term_lit (pos 1)))) (rel_not (rel_compare Le (term_var 0) (term_var 1))))))))
    (expr_binary (Compare Ge) (expr_var 5) (expr_lit (pos 1)))
truth_formed = refl

-- `choose (x: int, r: bool) where r ==> x == a`
abbrev truth_among : ExprTree
truth_among =
    expr_choose_where 1 scope (Int ∷ Truth ∷ []) [] holds_always
    (expr_binary Implies (expr_var 6) (expr_binary (Compare Eq) (expr_var 5) (expr_var 0)))
    at_any

truth_among_formed : form truth_among ≡
    expr_let 2
    (expr_choose 1 scope (Int ∷ Int ∷ [])
    (rel_and
    (rel_compare Le (term_lit (pos 0)) (term_var 6))
    (rel_and
    (rel_compare Le (term_var 6) (term_lit (pos 1)))
    (rel_or (rel_not (rel_compare Ge (term_var 6) (term_lit (pos 1)))) (rel_compare Eq (term_var 5) (term_var 0))))))
    (expr_tuple (exprs_of (expr_var 5 ∷ expr_binary (Compare Ge) (expr_var 6) (expr_lit (pos 1)) ∷ [])))
truth_among_formed = refl

-- `choose (r: bool, x: int, w: bool) where r != w && x == a`
abbrev two_truths : ExprTree
two_truths =
    expr_choose_where 1 scope (Truth ∷ Int ∷ Truth ∷ []) [] holds_always
    (expr_binary And (expr_binary (Compare Ne) (expr_var 5) (expr_var 7)) (expr_binary (Compare Eq) (expr_var 6) (expr_var 0)))
    at_any

two_truths_formed : form two_truths ≡
    expr_let 3
    (expr_choose 1 scope (Int ∷ Int ∷ Int ∷ [])
    (rel_and
    (rel_and (rel_compare Le (term_lit (pos 0)) (term_var 5)) (rel_compare Le (term_var 5) (term_lit (pos 1))))
    (rel_and
    (rel_compare Le (term_lit (pos 0)) (term_var 7))
    (rel_and
    (rel_compare Le (term_var 7) (term_lit (pos 1)))
    (rel_and
    (rel_or
    (rel_and (rel_compare Ge (term_var 5) (term_lit (pos 1))) (rel_not (rel_compare Ge (term_var 7) (term_lit (pos 1)))))
    (rel_and (rel_not (rel_compare Ge (term_var 5) (term_lit (pos 1)))) (rel_compare Ge (term_var 7) (term_lit (pos 1)))))
    (rel_compare Eq (term_var 6) (term_var 0)))))))
    (expr_tuple
    (exprs_of (expr_binary (Compare Ge) (expr_var 5) (expr_lit (pos 1)) ∷ expr_var 6 ∷ expr_binary (Compare Ge) (expr_var 7) (expr_lit (pos 1)) ∷ [])))
two_truths_formed = refl

-- `choose (x: int; y: int) where a == 2 * y + x`
abbrev hidden : ExprTree
hidden =
    expr_choose_where 1 scope (Int ∷ []) (Int ∷ []) holds_always
    (expr_binary (Compare Eq) (expr_var 0) (expr_binary Add (expr_binary Mul (expr_lit (pos 2)) (expr_var 6)) (expr_var 5)))
    at_any

hidden_formed : form hidden ≡
    expr_let 2
    (expr_choose 1 scope (Int ∷ Int ∷ []) (rel_compare Eq (term_var 0) (term_add (term_mul (term_lit (pos 2)) (term_var 6)) (term_var 5))))
    (expr_var 5)
hidden_formed = refl

-- `choose (u: set; r: bool) where u == (if r then s else {})`
abbrev hidden_truth : ExprTree
hidden_truth =
    expr_choose_where 1 scope (Set ∷ []) (Truth ∷ []) holds_always
    (expr_binary (Compare Eq) (expr_var 5) (expr_if (expr_var 6) (expr_var 4) (expr_set_of no_exprs)))
    at_any

hidden_truth_formed : form hidden_truth ≡
    expr_let 2
    (expr_choose 1 scope (Set ∷ Int ∷ [])
    (rel_and
    (rel_compare Le (term_lit (pos 0)) (term_var 6))
    (rel_and
    (rel_compare Le (term_var 6) (term_lit (pos 1)))
    (rel_or
    (rel_and (rel_compare Ge (term_var 6) (term_lit (pos 1))) (rel_same_set (set_var 5) (set_var 4)))
    (rel_and (rel_not (rel_compare Ge (term_var 6) (term_lit (pos 1)))) (rel_same_set (set_var 5) empty_set))))))
    (expr_var 5)
hidden_truth_formed = refl

-- `choose (x: int) given a < b where a < x <= b`
abbrev given : ExprTree
given =
    expr_choose_where 1 scope (Int ∷ []) []
    (holds_where (expr_binary (Compare Lt) (expr_var 0) (expr_var 1)))
    (expr_chain (Lt ∷ Le ∷ []) (exprs_of (expr_var 0 ∷ expr_var 5 ∷ expr_var 1 ∷ [])))
    at_any

given_formed : form given ≡
    expr_choose 1 scope (Int ∷ [])
    (rel_and (rel_compare Lt (term_var 0) (term_var 1)) (rel_and (rel_compare Lt (term_var 0) (term_var 5)) (rel_compare Le (term_var 5) (term_var 1))))
given_formed = refl

-- `choose (x: int) where if p then x == a else x == b`
abbrev in_scope : ExprTree
in_scope =
    expr_choose_where 1 scope (Int ∷ []) [] holds_always
    (expr_if (expr_var 2) (expr_binary (Compare Eq) (expr_var 5) (expr_var 0)) (expr_binary (Compare Eq) (expr_var 5) (expr_var 1)))
    at_any

in_scope_formed : form in_scope ≡
    expr_if (expr_var 2)
    (expr_choose 1 scope (Int ∷ []) (rel_compare Eq (term_var 5) (term_var 0)))
    (expr_choose 1 scope (Int ∷ []) (rel_compare Eq (term_var 5) (term_var 1)))
in_scope_formed = refl

-- `choose (x: int) where (p || x == 1) && !(p && x == 2)`
abbrev folds : ExprTree
folds =
    expr_choose_where 1 scope (Int ∷ []) [] holds_always
    (expr_binary And
    (expr_binary Or (expr_var 2) (expr_binary (Compare Eq) (expr_var 5) (expr_lit (pos 1))))
    (expr_not (expr_binary And (expr_var 2) (expr_binary (Compare Eq) (expr_var 5) (expr_lit (pos 2))))))
    at_any

folds_formed : form folds ≡
    expr_if (expr_var 2)
    (expr_choose 1 scope (Int ∷ []) (rel_not (rel_compare Eq (term_var 5) (term_lit (pos 2)))))
    (expr_choose 1 scope (Int ∷ []) (rel_compare Eq (term_var 5) (term_lit (pos 1))))
folds_formed = refl

-- `choose (x: int) where p && x == a && b == b`
abbrev folds_away : ExprTree
folds_away =
    expr_choose_where 1 scope (Int ∷ []) [] holds_always
    (expr_binary And
    (expr_binary And (expr_var 2) (expr_binary (Compare Eq) (expr_var 5) (expr_var 0)))
    (expr_binary (Compare Eq) (expr_var 1) (expr_var 1)))
    at_any

folds_away_formed : form folds_away ≡
    expr_if (expr_var 2)
    (expr_choose 1 scope (Int ∷ []) (rel_and (rel_compare Eq (term_var 5) (term_var 0)) (rel_compare Eq (term_var 1) (term_var 1))))
    (expr_choose 1 scope (Int ∷ []) rel_false)
folds_away_formed = refl

-- `choose (x: int) where p ==> q ==> x == a`
abbrev two_in_scope : ExprTree
two_in_scope =
    expr_choose_where 1 scope (Int ∷ []) [] holds_always
    (expr_binary Implies (expr_var 2) (expr_binary Implies (expr_var 3) (expr_binary (Compare Eq) (expr_var 5) (expr_var 0))))
    at_any

two_in_scope_formed : form two_in_scope ≡
    expr_if (expr_var 2)
    (expr_if (expr_var 3) (expr_choose 1 scope (Int ∷ []) (rel_compare Eq (term_var 5) (term_var 0))) (expr_choose 1 scope (Int ∷ []) rel_true))
    (expr_if (expr_var 3) (expr_choose 1 scope (Int ∷ []) rel_true) (expr_choose 1 scope (Int ∷ []) rel_true))
two_in_scope_formed = refl

-- `choose (x: int) given p where x == a`
abbrev given_in_scope : ExprTree
given_in_scope = expr_choose_where 1 scope (Int ∷ []) [] (holds_where (expr_var 2)) (expr_binary (Compare Eq) (expr_var 5) (expr_var 0)) at_any

given_in_scope_formed : form given_in_scope ≡
    expr_if (expr_var 2) (expr_choose 1 scope (Int ∷ []) (rel_compare Eq (term_var 5) (term_var 0))) (expr_choose 1 scope (Int ∷ []) rel_false)
given_in_scope_formed = refl

-- `choose (r: bool) where r == p`
abbrev truth_and_scope : ExprTree
truth_and_scope = expr_choose_where 1 scope (Truth ∷ []) [] holds_always (expr_binary (Compare Eq) (expr_var 5) (expr_var 2)) at_any

truth_and_scope_formed : form truth_and_scope ≡
    expr_let 1
    (expr_if (expr_var 2)
    (expr_choose 1 scope (Int ∷ [])
    (rel_and
    (rel_compare Le (term_lit (pos 0)) (term_var 5))
    (rel_and (rel_compare Le (term_var 5) (term_lit (pos 1))) (rel_compare Ge (term_var 5) (term_lit (pos 1))))))
    (expr_choose 1 scope (Int ∷ [])
    (rel_and
    (rel_compare Le (term_lit (pos 0)) (term_var 5))
    (rel_and (rel_compare Le (term_var 5) (term_lit (pos 1))) (rel_not (rel_compare Ge (term_var 5) (term_lit (pos 1))))))))
    (expr_binary (Compare Ge) (expr_var 5) (expr_lit (pos 1)))
truth_and_scope_formed = refl

-- `choose (x: int) where x == (if q then a else min(a, b))`
abbrev in_term : ExprTree
in_term =
    expr_choose_where 1 scope (Int ∷ []) [] holds_always
    (expr_binary (Compare Eq) (expr_var 5) (expr_if (expr_var 3) (expr_var 0) (expr_min (exprs_of (expr_var 0 ∷ expr_var 1 ∷ [])))))
    at_any

in_term_formed : form in_term ≡
    expr_if (expr_var 3)
    (expr_choose 1 scope (Int ∷ []) (rel_compare Eq (term_var 5) (term_var 0)))
    (expr_choose 1 scope (Int ∷ [])
    (rel_or
    (rel_and (rel_compare Le (term_var 0) (term_var 1)) (rel_compare Eq (term_var 5) (term_var 0)))
    (rel_and (rel_compare Gt (term_var 0) (term_var 1)) (rel_compare Eq (term_var 5) (term_var 1)))))
in_term_formed = refl

-- `choose (x: int) where ordered_sum(x, a) == b`
abbrev called : ExprTree
called =
    expr_choose_where 1 scope (Int ∷ []) [] holds_always
    (expr_binary (Compare Eq) (expr_call 0 (exprs_of (expr_var 5 ∷ expr_var 0 ∷ []))) (expr_var 1))
    at_any

called_formed : form called ≡
    expr_choose 1 scope (Int ∷ [])
    (rel_or
    (rel_or
    (rel_and
    (rel_compare Le (term_var 5) (term_var 0))
    (rel_and
    (rel_compare Le (term_var 5) (term_var 0))
    (rel_compare Eq (term_add (term_var 5) (term_mul (term_lit (pos 2)) (term_var 0))) (term_var 1))))
    (rel_and
    (rel_compare Le (term_var 5) (term_var 0))
    (rel_and
    (rel_not (rel_compare Le (term_var 5) (term_var 0)))
    (rel_compare Eq (term_add (term_var 5) (term_mul (term_lit (pos 2)) (term_var 5))) (term_var 1)))))
    (rel_or
    (rel_and
    (rel_not (rel_compare Le (term_var 5) (term_var 0)))
    (rel_and
    (rel_compare Le (term_var 5) (term_var 0))
    (rel_compare Eq (term_add (term_var 0) (term_mul (term_lit (pos 2)) (term_var 0))) (term_var 1))))
    (rel_and
    (rel_not (rel_compare Le (term_var 5) (term_var 0)))
    (rel_and
    (rel_not (rel_compare Le (term_var 5) (term_var 0)))
    (rel_compare Eq (term_add (term_var 0) (term_mul (term_lit (pos 2)) (term_var 5))) (term_var 1))))))
called_formed = refl

-- `let y = choose (x: int) where known(x) in min(y, a)`
abbrev by_call : ExprTree
by_call =
    expr_let 1
    (expr_choose_where 1 scope (Int ∷ []) [] holds_always (expr_call 1 (exprs_of (expr_var 5 ∷ []))) at_any)
    (expr_min (exprs_of (expr_var 5 ∷ expr_var 0 ∷ [])))

by_call_formed : form by_call ≡
    expr_let 1
    (expr_choose 1 scope (Int ∷ []) (rel_compare Eq (term_mul (term_lit (pos 3)) (term_var 5)) (term_lit (pos 6))))
    (expr_let 2
    (expr_tuple (exprs_of (expr_var 5 ∷ expr_var 0 ∷ [])))
    (expr_if (expr_binary (Compare Le) (expr_var 6) (expr_var 7)) (expr_var 6) (expr_var 7)))
by_call_formed = refl

-- `choose (u: set) where (p && u != s || u subset s) && !(q && !true)`
abbrev folds_sets : ExprTree
folds_sets =
    expr_choose_where 1 scope (Set ∷ []) [] holds_always
    (expr_binary And
    (expr_binary Or (expr_binary And (expr_var 2) (expr_binary (Compare Ne) (expr_var 5) (expr_var 4))) (expr_binary Subset (expr_var 5) (expr_var 4)))
    (expr_not (expr_binary And (expr_var 3) (expr_not (expr_truth true)))))
    at_any

folds_sets_formed : form folds_sets ≡
    expr_if (expr_var 2)
    (expr_if (expr_var 3)
    (expr_choose 1 scope (Set ∷ []) (rel_or (rel_other_set (set_var 5) (set_var 4)) (rel_subset (set_var 5) (set_var 4))))
    (expr_choose 1 scope (Set ∷ []) (rel_or (rel_other_set (set_var 5) (set_var 4)) (rel_subset (set_var 5) (set_var 4)))))
    (expr_if (expr_var 3)
    (expr_choose 1 scope (Set ∷ []) (rel_subset (set_var 5) (set_var 4)))
    (expr_choose 1 scope (Set ∷ []) (rel_subset (set_var 5) (set_var 4))))
folds_sets_formed = refl

-- `choose (x: int) where (p ==> !true || x == 1) && (q ==> !false && x == 2)`
abbrev folds_not : ExprTree
folds_not =
    expr_choose_where 1 scope (Int ∷ []) [] holds_always
    (expr_binary And
    (expr_binary Implies (expr_var 2) (expr_binary Or (expr_not (expr_truth true)) (expr_binary (Compare Eq) (expr_var 5) (expr_lit (pos 1)))))
    (expr_binary Implies (expr_var 3) (expr_binary And (expr_not (expr_truth false)) (expr_binary (Compare Eq) (expr_var 5) (expr_lit (pos 2))))))
    at_any

folds_not_formed : form folds_not ≡
    expr_if (expr_var 2)
    (expr_if (expr_var 3)
    (expr_choose 1 scope (Int ∷ []) (rel_and (rel_compare Eq (term_var 5) (term_lit (pos 1))) (rel_compare Eq (term_var 5) (term_lit (pos 2)))))
    (expr_choose 1 scope (Int ∷ []) (rel_compare Eq (term_var 5) (term_lit (pos 1)))))
    (expr_if (expr_var 3) (expr_choose 1 scope (Int ∷ []) (rel_compare Eq (term_var 5) (term_lit (pos 2)))) (expr_choose 1 scope (Int ∷ []) rel_true))
folds_not_formed = refl

-- `choose (x: int) where x >= a minimise x`
abbrev stays : ExprTree
stays = expr_choose_where 1 scope (Int ∷ []) [] holds_always (expr_binary (Compare Ge) (expr_var 5) (expr_var 0)) (at_least (expr_var 5))

stays_formed : form stays ≡ expr_choose_where 1 scope (Int ∷ []) [] holds_always (expr_binary (Compare Ge) (expr_var 5) (expr_var 0)) (at_least (expr_var 5))
stays_formed = refl
