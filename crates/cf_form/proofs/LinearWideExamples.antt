-- Worked examples that hold down which number forms are constant, and which are known where the four variables of the scope are.
use Rattle.std.specs.Prelude.{pos, true, false, List, reverse, ◌≡◌, [], ◌∷◌, refl}
use Rattle.cf_tree.specs.declared.base.Base.{Base}
use Rattle.cf_tree.specs.declared.base.Base.TheVariants.{Int, Bool as Truth, Set}
use Rattle.cf_tree.specs.ExprTree.{ExprTree, expr_abs, expr_binary, expr_call, expr_card, expr_div, expr_if, expr_let, expr_lit, expr_max, expr_min, expr_mod, expr_neg, expr_tuple, expr_var, exprs_of}
use Rattle.cf_form.specs.Wide.{WideTerm}
use Rattle.cf_tree.specs.declared.base.Order.TheVariants.{Eq, Gt, Le}
use Rattle.cf_tree.specs.declared.raw.BinOp.TheVariants.{Add, Compare, Mul, Sub}
use Rattle.cf_form.specs.Expansion.{call_expanded, expanded, first_part, number_in, variables_from}
use Rattle.cf_form.specs.LinearWide.{is_constant, is_held_below}

-- parameters a, b, s, t, and outputs x, u, p, q
abbrev bases : List Base
bases = Int ∷ Int ∷ Set ∷ Set ∷ Int ∷ Set ∷ Truth ∷ Truth ∷ []

-- `def twice(x: int): int = x + x`
abbrev twice_body : ExprTree
twice_body = expr_binary Add (expr_var 0) (expr_var 0)

-- `def least(x: int, y: int): int = min(x, twice(y))`
abbrev least_body : ExprTree
least_body = expr_min (exprs_of (expr_var 0 ∷ expr_call 0 (exprs_of (expr_var 1 ∷ [])) ∷ []))

-- `def ordered(x: int, y: int): (int, int) = if x <= y then (x, y) else (y, x)`
abbrev ordered_body : ExprTree
ordered_body =
    expr_if
    (expr_binary (Compare Le) (expr_var 0) (expr_var 1))
    (expr_tuple (exprs_of (expr_var 0 ∷ expr_var 1 ∷ [])))
    (expr_tuple (exprs_of (expr_var 1 ∷ expr_var 0 ∷ [])))

-- `def known(t: int): bool = let k = 3 in k * t == 6`
abbrev known_body : ExprTree
known_body = expr_let 1 (expr_lit (pos 3)) (expr_binary (Compare Eq) (expr_binary Mul (expr_var 1) (expr_var 0)) (expr_lit (pos 6)))

abbrev functions : List ExprTree
functions = twice_body ∷ least_body ∷ ordered_body ∷ known_body ∷ []

-- the number form of an expression
abbrev term_of : ExprTree → WideTerm
term_of e = number_in (first_part (expanded (call_expanded (reverse functions)) (variables_from 0 bases) e))

-- `2 + 3 * 4 - 1`
abbrev literal : ExprTree
literal = expr_binary Sub (expr_binary Add (expr_lit (pos 2)) (expr_binary Mul (expr_lit (pos 3)) (expr_lit (pos 4)))) (expr_lit (pos 1))

literal_held : (is_constant (term_of literal) ≡ true) × (is_held_below 4 (term_of literal) ≡ true)
literal_held = (refl, refl)

-- `a`
abbrev scope_variable : ExprTree
scope_variable = expr_var 0

scope_variable_held : (is_constant (term_of scope_variable) ≡ false) × (is_held_below 4 (term_of scope_variable) ≡ true)
scope_variable_held = (refl, refl)

-- `x`
abbrev output : ExprTree
output = expr_var 4

output_held : (is_constant (term_of output) ≡ false) × (is_held_below 4 (term_of output) ≡ false)
output_held = (refl, refl)

-- `a + x`
abbrev mixed : ExprTree
mixed = expr_binary Add (expr_var 0) (expr_var 4)

mixed_held : (is_constant (term_of mixed) ≡ false) × (is_held_below 4 (term_of mixed) ≡ false)
mixed_held = (refl, refl)

-- `card(s)`
abbrev card : ExprTree
card = expr_card (expr_var 2)

card_held : (is_constant (term_of card) ≡ false) × (is_held_below 4 (term_of card) ≡ false)
card_held = (refl, refl)

-- `div(a, 2)`
abbrev quotient : ExprTree
quotient = expr_div (expr_var 0) (pos 2)

quotient_held : (is_constant (term_of quotient) ≡ false) × (is_held_below 4 (term_of quotient) ≡ false)
quotient_held = (refl, refl)

-- `mod(2, 2)`
abbrev rest : ExprTree
rest = expr_mod (expr_lit (pos 2)) (pos 2)

rest_held : (is_constant (term_of rest) ≡ false) × (is_held_below 4 (term_of rest) ≡ false)
rest_held = (refl, refl)

-- `if x > 0 then 2 else 3`
abbrev tested : ExprTree
tested = expr_if (expr_binary (Compare Gt) (expr_var 4) (expr_lit (pos 0))) (expr_lit (pos 2)) (expr_lit (pos 3))

tested_held : (is_constant (term_of tested) ≡ true) × (is_held_below 4 (term_of tested) ≡ true)
tested_held = (refl, refl)

-- `if p then a else 3`
abbrev tested_known : ExprTree
tested_known = expr_if (expr_var 6) (expr_var 0) (expr_lit (pos 3))

tested_known_held : (is_constant (term_of tested_known) ≡ false) × (is_held_below 4 (term_of tested_known) ≡ true)
tested_known_held = (refl, refl)

-- `if p then 2 else x`
abbrev tested_unknown : ExprTree
tested_unknown = expr_if (expr_var 6) (expr_lit (pos 2)) (expr_var 4)

tested_unknown_held : (is_constant (term_of tested_unknown) ≡ false) × (is_held_below 4 (term_of tested_unknown) ≡ false)
tested_unknown_held = (refl, refl)

-- `if p then x else 2`
abbrev tested_else : ExprTree
tested_else = expr_if (expr_var 6) (expr_var 4) (expr_lit (pos 2))

tested_else_held : (is_constant (term_of tested_else) ≡ false) × (is_held_below 4 (term_of tested_else) ≡ false)
tested_else_held = (refl, refl)

-- `min(1, 2)`
abbrev least : ExprTree
least = expr_min (exprs_of (expr_lit (pos 1) ∷ expr_lit (pos 2) ∷ []))

least_held : (is_constant (term_of least) ≡ true) × (is_held_below 4 (term_of least) ≡ true)
least_held = (refl, refl)

-- `min(1, -a)`
abbrev least_known : ExprTree
least_known = expr_min (exprs_of (expr_lit (pos 1) ∷ expr_neg (expr_var 0) ∷ []))

least_known_held : (is_constant (term_of least_known) ≡ false) × (is_held_below 4 (term_of least_known) ≡ true)
least_known_held = (refl, refl)

-- `max(a, 2, x)`
abbrev greatest : ExprTree
greatest = expr_max (exprs_of (expr_var 0 ∷ expr_lit (pos 2) ∷ expr_var 4 ∷ []))

greatest_held : (is_constant (term_of greatest) ≡ false) × (is_held_below 4 (term_of greatest) ≡ false)
greatest_held = (refl, refl)

-- `let k = 3 in k * abs(-2)`
abbrev in_let : ExprTree
in_let = expr_let 1 (expr_lit (pos 3)) (expr_binary Mul (expr_var 8) (expr_abs (expr_neg (expr_lit (pos 2)))))

in_let_held : (is_constant (term_of in_let) ≡ true) × (is_held_below 4 (term_of in_let) ≡ true)
in_let_held = (refl, refl)

-- `let k = x in 3`
abbrev let_gone : ExprTree
let_gone = expr_let 1 (expr_var 4) (expr_lit (pos 3))

let_gone_held : (is_constant (term_of let_gone) ≡ true) × (is_held_below 4 (term_of let_gone) ≡ true)
let_gone_held = (refl, refl)

-- `twice(3)`
abbrev called : ExprTree
called = expr_call 0 (exprs_of (expr_lit (pos 3) ∷ []))

called_held : (is_constant (term_of called) ≡ true) × (is_held_below 4 (term_of called) ≡ true)
called_held = (refl, refl)

-- `twice(a)`
abbrev called_known : ExprTree
called_known = expr_call 0 (exprs_of (expr_var 0 ∷ []))

called_known_held : (is_constant (term_of called_known) ≡ false) × (is_held_below 4 (term_of called_known) ≡ true)
called_known_held = (refl, refl)

-- `twice(x)`
abbrev called_unknown : ExprTree
called_unknown = expr_call 0 (exprs_of (expr_var 4 ∷ []))

called_unknown_held : (is_constant (term_of called_unknown) ≡ false) × (is_held_below 4 (term_of called_unknown) ≡ false)
called_unknown_held = (refl, refl)
