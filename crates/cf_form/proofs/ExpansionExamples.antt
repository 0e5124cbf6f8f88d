-- Worked examples that hold down the expansion of relations: each form, lets, calls, and tuples of an `if`.
use Rattle.std.specs.Prelude.{pos, true, false, List, ◌≡◌, [], ◌∷◌, refl}
use Rattle.cf_tree.specs.declared.base.Base.{Base}
use Rattle.cf_tree.specs.declared.base.Base.TheVariants.{Int, Bool as Truth, Set}
use Rattle.cf_tree.specs.ExprTree.{ExprTree, expr_abs, expr_binary, expr_call, expr_card, expr_chain, expr_div, expr_divides, expr_if, expr_let, expr_lit, expr_max, expr_min, expr_mod, expr_neg, expr_not, expr_set_of, expr_truth, expr_tuple, expr_var, exprs_of, no_exprs}
use Rattle.cf_form.specs.Wide.{WideRel, no_wides, wide_abs, wide_add, wide_and, wide_card, wide_chain, wide_compare, wide_diff, wide_div, wide_divides, wide_empty, wide_false, wide_if, wide_if_set, wide_if_truth, wide_implies, wide_inter, wide_lit, wide_max, wide_min, wide_mod, wide_more, wide_mul, wide_neg, wide_not, wide_or, wide_other, wide_other_set, wide_same, wide_same_set, wide_set, wide_sub, wide_subset, wide_true, wide_truth, wide_union, wide_var}
use Rattle.cf_tree.specs.declared.base.Order.TheVariants.{Eq, Ge, Gt, Le, Lt, Ne}
use Rattle.cf_tree.specs.declared.raw.BinOp.TheVariants.{Add, And, Compare, Diff, Implies, Inter, Mul, Or, Sub, Subset, Union}
use Rattle.cf_form.specs.Expansion.{wide_of}

-- parameters a, b, s, t, and outputs x, u, p, q
abbrev bases : List Base
bases = Int ∷ Int ∷ Set ∷ Set ∷ Int ∷ Set ∷ Truth ∷ Truth ∷ []

-- `def twice(x: int): int = x + x`
abbrev twice_body : ExprTree
twice_body = expr_binary Add (expr_var 0) (expr_var 0)

-- `def least(x: int, y: int): int = min(x, twice(y))`
abbrev least_body : ExprTree
least_body = expr_min (exprs_of (expr_var 0 ∷ expr_call 0 (exprs_of (expr_var 1 ∷ [])) ∷ []))

-- `def ordered(x: int, y: int): (int, int) = if x <= y then (x, y) else (y, x)`
abbrev ordered_body : ExprTree
ordered_body =
    expr_if
    (expr_binary (Compare Le) (expr_var 0) (expr_var 1))
    (expr_tuple (exprs_of (expr_var 0 ∷ expr_var 1 ∷ [])))
    (expr_tuple (exprs_of (expr_var 1 ∷ expr_var 0 ∷ [])))

-- `def known(t: int): bool = let k = 3 in k * t == 6`
abbrev known_body : ExprTree
known_body = expr_let 1 (expr_lit (pos 3)) (expr_binary (Compare Eq) (expr_binary Mul (expr_var 1) (expr_var 0)) (expr_lit (pos 6)))

abbrev functions : List ExprTree
functions = twice_body ∷ least_body ∷ ordered_body ∷ known_body ∷ []

abbrev wide : ExprTree → WideRel
wide e = wide_of functions bases e

-- `true && !false || p`
abbrev truths : ExprTree
truths = expr_binary Or (expr_binary And (expr_truth true) (expr_not (expr_truth false))) (expr_var 6)

truths_expanded : wide truths ≡ wide_or (wide_and wide_true (wide_not wide_false)) (wide_truth 6)
truths_expanded = refl

-- `-x + 2 * a - div(b, 3) <= abs(mod(x, 2))`
abbrev numbers : ExprTree
numbers =
    expr_binary (Compare Le)
    (expr_binary Sub (expr_binary Add (expr_neg (expr_var 4)) (expr_binary Mul (expr_lit (pos 2)) (expr_var 0))) (expr_div (expr_var 1) (pos 3)))
    (expr_abs (expr_mod (expr_var 4) (pos 2)))

numbers_expanded : wide numbers ≡
    wide_compare Le
    (wide_sub (wide_add (wide_neg (wide_var 4)) (wide_mul (wide_lit (pos 2)) (wide_var 0))) (wide_div (wide_var 1) (pos 3)))
    (wide_abs (wide_mod (wide_var 4) (pos 2)))
numbers_expanded = refl

-- `s union u inter t diff {} subset u`
abbrev sets : ExprTree
sets =
    expr_binary Subset (expr_binary Diff (expr_binary Union (expr_var 2) (expr_binary Inter (expr_var 5) (expr_var 3))) (expr_set_of no_exprs)) (expr_var 5)

sets_expanded : wide sets ≡ wide_subset (wide_diff (wide_union (wide_set 2) (wide_inter (wide_set 5) (wide_set 3))) wide_empty) (wide_set 5)
sets_expanded = refl

-- `card(u) > 2 && 3 divides x`
abbrev cards : ExprTree
cards = expr_binary And (expr_binary (Compare Gt) (expr_card (expr_var 5)) (expr_lit (pos 2))) (expr_divides (pos 3) (expr_var 4))

cards_expanded : wide cards ≡ wide_and (wide_compare Gt (wide_card (wide_set 5)) (wide_lit (pos 2))) (wide_divides (pos 3) (wide_var 4))
cards_expanded = refl

-- `(x == a) == (u != s) && p != q && u == t`
abbrev equalities : ExprTree
equalities =
    expr_binary And
    (expr_binary And
    (expr_binary (Compare Eq) (expr_binary (Compare Eq) (expr_var 4) (expr_var 0)) (expr_binary (Compare Ne) (expr_var 5) (expr_var 2)))
    (expr_binary (Compare Ne) (expr_var 6) (expr_var 7)))
    (expr_binary (Compare Eq) (expr_var 5) (expr_var 3))

equalities_expanded : wide equalities ≡
    wide_and
    (wide_and
    (wide_same (wide_compare Eq (wide_var 4) (wide_var 0)) (wide_other_set (wide_set 5) (wide_set 2)))
    (wide_other (wide_truth 6) (wide_truth 7)))
    (wide_same_set (wide_set 5) (wide_set 3))
equalities_expanded = refl

-- `p ==> q ==> a >= x`
abbrev implied : ExprTree
implied = expr_binary Implies (expr_var 6) (expr_binary Implies (expr_var 7) (expr_binary (Compare Ge) (expr_var 0) (expr_var 4)))

implied_expanded : wide implied ≡ wide_implies (wide_truth 6) (wide_implies (wide_truth 7) (wide_compare Ge (wide_var 0) (wide_var 4)))
implied_expanded = refl

-- `a <= x == b < 9`
abbrev chained : ExprTree
chained = expr_chain (Le ∷ Eq ∷ Lt ∷ []) (exprs_of (expr_var 0 ∷ expr_var 4 ∷ expr_var 1 ∷ expr_lit (pos 9) ∷ []))

chained_expanded : wide chained ≡
    wide_chain (Le ∷ Eq ∷ Lt ∷ []) (wide_more (wide_var 0) (wide_more (wide_var 4) (wide_more (wide_var 1) (wide_more (wide_lit (pos 9)) no_wides))))
chained_expanded = refl

-- `min(a, x, 3) < max(b, x)`
abbrev bounded : ExprTree
bounded =
    expr_binary (Compare Lt) (expr_min (exprs_of (expr_var 0 ∷ expr_var 4 ∷ expr_lit (pos 3) ∷ []))) (expr_max (exprs_of (expr_var 1 ∷ expr_var 4 ∷ [])))

bounded_expanded : wide bounded ≡
    wide_compare Lt
    (wide_min (wide_more (wide_var 0) (wide_more (wide_var 4) (wide_more (wide_lit (pos 3)) no_wides))))
    (wide_max (wide_more (wide_var 1) (wide_more (wide_var 4) no_wides)))
bounded_expanded = refl

-- `(if p then a else x) == b && (if q then s else u) == t && (if x > 0 then p else q)`
abbrev tested : ExprTree
tested =
    expr_binary And
    (expr_binary And
    (expr_binary (Compare Eq) (expr_if (expr_var 6) (expr_var 0) (expr_var 4)) (expr_var 1))
    (expr_binary (Compare Eq) (expr_if (expr_var 7) (expr_var 2) (expr_var 5)) (expr_var 3)))
    (expr_if (expr_binary (Compare Gt) (expr_var 4) (expr_lit (pos 0))) (expr_var 6) (expr_var 7))

tested_expanded : wide tested ≡
    wide_and
    (wide_and
    (wide_compare Eq (wide_if (wide_truth 6) (wide_var 0) (wide_var 4)) (wide_var 1))
    (wide_same_set (wide_if_set (wide_truth 7) (wide_set 2) (wide_set 5)) (wide_set 3)))
    (wide_if_truth (wide_compare Gt (wide_var 4) (wide_lit (pos 0))) (wide_truth 6) (wide_truth 7))
tested_expanded = refl

-- `let y = x + 1 in y * 2 == a + y`
abbrev let_twice : ExprTree
let_twice =
    expr_let 1
    (expr_binary Add (expr_var 4) (expr_lit (pos 1)))
    (expr_binary (Compare Eq) (expr_binary Mul (expr_var 8) (expr_lit (pos 2))) (expr_binary Add (expr_var 0) (expr_var 8)))

let_twice_expanded : wide let_twice ≡
    wide_compare Eq
    (wide_mul (wide_add (wide_var 4) (wide_lit (pos 1))) (wide_lit (pos 2)))
    (wide_add (wide_var 0) (wide_add (wide_var 4) (wide_lit (pos 1))))
let_twice_expanded = refl

-- `let y = 5 * x in a == b`
abbrev let_gone : ExprTree
let_gone = expr_let 1 (expr_binary Mul (expr_lit (pos 5)) (expr_var 4)) (expr_binary (Compare Eq) (expr_var 0) (expr_var 1))

let_gone_expanded : wide let_gone ≡ wide_compare Eq (wide_var 0) (wide_var 1)
let_gone_expanded = refl

-- `let x = x + a in let x = x - b in x == 0`
abbrev let_hides : ExprTree
let_hides =
    expr_let 1
    (expr_binary Add (expr_var 4) (expr_var 0))
    (expr_let 1 (expr_binary Sub (expr_var 8) (expr_var 1)) (expr_binary (Compare Eq) (expr_var 9) (expr_lit (pos 0))))

let_hides_expanded : wide let_hides ≡ wide_compare Eq (wide_sub (wide_add (wide_var 4) (wide_var 0)) (wide_var 1)) (wide_lit (pos 0))
let_hides_expanded = refl

-- `let (y, z, w) = (x, u, p) in w ==> y == card(z)`
abbrev let_parts : ExprTree
let_parts =
    expr_let 3
    (expr_tuple (exprs_of (expr_var 4 ∷ expr_var 5 ∷ expr_var 6 ∷ [])))
    (expr_binary Implies (expr_var 10) (expr_binary (Compare Eq) (expr_var 8) (expr_card (expr_var 9))))

let_parts_expanded : wide let_parts ≡ wide_implies (wide_truth 6) (wide_compare Eq (wide_var 4) (wide_card (wide_set 5)))
let_parts_expanded = refl

-- `let (y, r) = if a < b then (x, p) else (b, q) in r && y == 1`
abbrev if_parts : ExprTree
if_parts =
    expr_let 2
    (expr_if
    (expr_binary (Compare Lt) (expr_var 0) (expr_var 1))
    (expr_tuple (exprs_of (expr_var 4 ∷ expr_var 6 ∷ [])))
    (expr_tuple (exprs_of (expr_var 1 ∷ expr_var 7 ∷ []))))
    (expr_binary And (expr_var 9) (expr_binary (Compare Eq) (expr_var 8) (expr_lit (pos 1))))

if_parts_expanded : wide if_parts ≡
    wide_and
    (wide_if_truth (wide_compare Lt (wide_var 0) (wide_var 1)) (wide_truth 6) (wide_truth 7))
    (wide_compare Eq (wide_if (wide_compare Lt (wide_var 0) (wide_var 1)) (wide_var 4) (wide_var 1)) (wide_lit (pos 1)))
if_parts_expanded = refl

-- `twice(x) == least(a, x)`
abbrev called : ExprTree
called = expr_binary (Compare Eq) (expr_call 0 (exprs_of (expr_var 4 ∷ []))) (expr_call 1 (exprs_of (expr_var 0 ∷ expr_var 4 ∷ [])))

called_expanded : wide called ≡
    wide_compare Eq (wide_add (wide_var 4) (wide_var 4)) (wide_min (wide_more (wide_var 0) (wide_more (wide_add (wide_var 4) (wide_var 4)) no_wides)))
called_expanded = refl

-- `let (y, z) = ordered(a, x) in y < z`
abbrev call_parts : ExprTree
call_parts = expr_let 2 (expr_call 2 (exprs_of (expr_var 0 ∷ expr_var 4 ∷ []))) (expr_binary (Compare Lt) (expr_var 8) (expr_var 9))

call_parts_expanded : wide call_parts ≡
    wide_compare Lt
    (wide_if (wide_compare Le (wide_var 0) (wide_var 4)) (wide_var 0) (wide_var 4))
    (wide_if (wide_compare Le (wide_var 0) (wide_var 4)) (wide_var 4) (wide_var 0))
call_parts_expanded = refl

-- `known(x)`
abbrev call_let : ExprTree
call_let = expr_call 3 (exprs_of (expr_var 4 ∷ []))

call_let_expanded : wide call_let ≡ wide_compare Eq (wide_mul (wide_lit (pos 3)) (wide_var 4)) (wide_lit (pos 6))
call_let_expanded = refl
