-- Worked examples that hold down how many alternatives a number form has.
use Rattle.std.specs.Prelude.{ℕ, pos, List, ◌≡◌, [], ◌∷◌, refl}
use Rattle.cf_tree.specs.declared.base.Base.{Base}
use Rattle.cf_tree.specs.declared.base.Base.TheVariants.{Int, Bool as Truth, Set}
use Rattle.cf_tree.specs.ExprTree.{ExprTree, expr_abs, expr_binary, expr_card, expr_div, expr_if, expr_lit, expr_max, expr_min, expr_mod, expr_neg, expr_set_of, expr_var, exprs_of, no_exprs}
use Rattle.cf_tree.specs.declared.raw.BinOp.TheVariants.{Add, Diff, Inter, Mul, Sub, Union}
use Rattle.cf_form.specs.Expansion.{call_expanded, expanded, first_part, number_in, variables_from}
use Rattle.cf_form.specs.Alternatives.{term_count}

-- parameters a, b, s, t, and outputs x, u, p, q
abbrev bases : List Base
bases = Int ∷ Int ∷ Set ∷ Set ∷ Int ∷ Set ∷ Truth ∷ Truth ∷ []

-- how many alternatives the number form of an expression has
abbrev many : ExprTree → ℕ
many e = term_count (number_in (first_part (expanded (call_expanded []) (variables_from 0 bases) e)))

-- `5`
abbrev literal : ExprTree
literal = expr_lit (pos 5)

literal_many : many literal ≡ 1
literal_many = refl

-- `x`
abbrev variable : ExprTree
variable = expr_var 4

variable_many : many variable ≡ 1
variable_many = refl

-- `-(if p then a else b)`
abbrev negated : ExprTree
negated = expr_neg (expr_if (expr_var 6) (expr_var 0) (expr_var 1))

negated_many : many negated ≡ 2
negated_many = refl

-- `(if p then a else b) + (if q then a else if p then b else x)`
abbrev sum : ExprTree
sum = expr_binary Add (expr_if (expr_var 6) (expr_var 0) (expr_var 1)) (expr_if (expr_var 7) (expr_var 0) (expr_if (expr_var 6) (expr_var 1) (expr_var 4)))

sum_many : many sum ≡ 6
sum_many = refl

-- `(if q then a else if p then b else x) - (if p then a else b)`
abbrev difference : ExprTree
difference =
    expr_binary Sub (expr_if (expr_var 7) (expr_var 0) (expr_if (expr_var 6) (expr_var 1) (expr_var 4))) (expr_if (expr_var 6) (expr_var 0) (expr_var 1))

difference_many : many difference ≡ 6
difference_many = refl

-- `(if p then a else b) * (if q then 3 else if p then 4 else 5)`
abbrev product : ExprTree
product =
    expr_binary Mul
    (expr_if (expr_var 6) (expr_var 0) (expr_var 1))
    (expr_if (expr_var 7) (expr_lit (pos 3)) (expr_if (expr_var 6) (expr_lit (pos 4)) (expr_lit (pos 5))))

product_many : many product ≡ 6
product_many = refl

-- `div((if q then a else if p then b else x), 2)`
abbrev quotient : ExprTree
quotient = expr_div (expr_if (expr_var 7) (expr_var 0) (expr_if (expr_var 6) (expr_var 1) (expr_var 4))) (pos 2)

quotient_many : many quotient ≡ 3
quotient_many = refl

-- `mod((if q then a else if p then b else x), 2)`
abbrev rest : ExprTree
rest = expr_mod (expr_if (expr_var 7) (expr_var 0) (expr_if (expr_var 6) (expr_var 1) (expr_var 4))) (pos 2)

rest_many : many rest ≡ 3
rest_many = refl

-- `abs((if q then a else if p then b else x))`
abbrev absolute : ExprTree
absolute = expr_abs (expr_if (expr_var 7) (expr_var 0) (expr_if (expr_var 6) (expr_var 1) (expr_var 4)))

absolute_many : many absolute ≡ 3
absolute_many = refl

-- `if p then (if p then a else b) else x`
abbrev tested : ExprTree
tested = expr_if (expr_var 6) (expr_if (expr_var 6) (expr_var 0) (expr_var 1)) (expr_var 4)

tested_many : many tested ≡ 3
tested_many = refl

-- `if p then x else (if q then a else if p then b else x)`
abbrev tested_else : ExprTree
tested_else = expr_if (expr_var 6) (expr_var 4) (expr_if (expr_var 7) (expr_var 0) (expr_if (expr_var 6) (expr_var 1) (expr_var 4)))

tested_else_many : many tested_else ≡ 4
tested_else_many = refl

-- `min((if p then a else b), x, (if q then a else if p then b else x))`
abbrev least : ExprTree
least =
    expr_min
    (exprs_of
    (expr_if (expr_var 6) (expr_var 0) (expr_var 1)
    ∷ expr_var 4
    ∷ expr_if (expr_var 7) (expr_var 0) (expr_if (expr_var 6) (expr_var 1) (expr_var 4)) ∷ []))

least_many : many least ≡ 24
least_many = refl

-- `max((if q then a else if p then b else x), (if p then a else b), b, x)`
abbrev greatest : ExprTree
greatest =
    expr_max
    (exprs_of
    (expr_if (expr_var 7) (expr_var 0) (expr_if (expr_var 6) (expr_var 1) (expr_var 4))
    ∷ expr_if (expr_var 6) (expr_var 0) (expr_var 1)
    ∷ expr_var 1
    ∷ expr_var 4 ∷ []))

greatest_many : many greatest ≡ 48
greatest_many = refl

-- `card({})`
abbrev empty : ExprTree
empty = expr_card (expr_set_of no_exprs)

empty_many : many empty ≡ 1
empty_many = refl

-- `card(s)`
abbrev one_set : ExprTree
one_set = expr_card (expr_var 2)

one_set_many : many one_set ≡ 1
one_set_many = refl

-- `card((if p then s else t) union (if q then s else if p then t else u))`
abbrev union : ExprTree
union =
    expr_card
    (expr_binary Union
    (expr_if (expr_var 6) (expr_var 2) (expr_var 3))
    (expr_if (expr_var 7) (expr_var 2) (expr_if (expr_var 6) (expr_var 3) (expr_var 5))))

union_many : many union ≡ 6
union_many = refl

-- `card((if p then s else t) inter (if q then s else if p then t else u))`
abbrev inter : ExprTree
inter =
    expr_card
    (expr_binary Inter
    (expr_if (expr_var 6) (expr_var 2) (expr_var 3))
    (expr_if (expr_var 7) (expr_var 2) (expr_if (expr_var 6) (expr_var 3) (expr_var 5))))

inter_many : many inter ≡ 6
inter_many = refl

-- `card((if p then s else t) diff (if q then s else if p then t else u))`
abbrev diff : ExprTree
diff =
    expr_card
    (expr_binary Diff
    (expr_if (expr_var 6) (expr_var 2) (expr_var 3))
    (expr_if (expr_var 7) (expr_var 2) (expr_if (expr_var 6) (expr_var 3) (expr_var 5))))

diff_many : many diff ≡ 6
diff_many = refl

-- `card(if p then (if p then s else t) else u)`
abbrev tested_set : ExprTree
tested_set = expr_card (expr_if (expr_var 6) (expr_if (expr_var 6) (expr_var 2) (expr_var 3)) (expr_var 5))

tested_set_many : many tested_set ≡ 3
tested_set_many = refl

-- `card(if p then u else (if q then s else if p then t else u))`
abbrev tested_set_else : ExprTree
tested_set_else = expr_card (expr_if (expr_var 6) (expr_var 5) (expr_if (expr_var 7) (expr_var 2) (expr_if (expr_var 6) (expr_var 3) (expr_var 5))))

tested_set_else_many : many tested_set_else ≡ 4
tested_set_else_many = refl
