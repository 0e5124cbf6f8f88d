-- Worked examples: the code of each form of an expression, and its chooses.
use Rattle.std.proofs.Common.{◌≡◌, ℕ, ◌+◌, pos, true, List, [], ◌∷◌, map, refl}
use Rattle.cf_tree.specs.declared.base.Order.TheVariants.{Lt}
use Rattle.cf_tree.specs.declared.raw.BinOp.TheVariants.{Add, Sub, Mul, And, Or, Union, Inter, Diff, Subset, Implies, Compare}
use Rattle.cf_tree.specs.ChooseTree.{ChooseTree}
use Rattle.cf_tree.specs.CodeTree.{CodeTree, code_lit, code_truth, code_var, code_set_of, code_tuple, code_sum, code_sub, code_mul, code_neg, code_div, code_mod, code_max, code_compare, code_divides, code_and, code_or, code_not, code_union, code_inter, code_diff, code_subset, code_card, code_if, code_let, code_solve, no_codes, codes_of, arms_of}
use Rattle.cf_tree.specs.ExprTree.{ExprTree, expr_lit, expr_truth, expr_var, expr_set_of, expr_tuple, expr_neg, expr_not, expr_abs, expr_binary, expr_chain, expr_min, expr_max, expr_divides, expr_div, expr_mod, expr_card, expr_if, expr_call, expr_let, expr_choose, expr_choose_where, expr_match, match_arm, exprs_of, match_arms_of, holds_always, at_any}
use Rattle.cf_tree.specs.RelTree.{rel_false}
use Rattle.cf_build.specs.Chooses.{chooses_in}
use Rattle.cf_build.specs.Codes.{code_of}

-- ---- codes
-- functions and chooses whose codes are told apart by their numbers
abbrev calls : ℕ → CodeTree
calls f = code_lit (pos (100 + f))

abbrev solves : ChooseTree → CodeTree
solves q = code_solve q.number (arms_of [])

-- behind five variables
abbrev coded : ExprTree → CodeTree
coded e = code_of calls solves 5 e

abbrev a : ExprTree
a = expr_var 0

abbrev b : ExprTree
b = expr_var 1

abbrev c : ExprTree
c = expr_var 2

abbrev v : ℕ → CodeTree
v x = code_var x

abbrev pair : List CodeTree
pair = v 0 ∷ v 1 ∷ []

leaves : map coded (expr_lit (pos 3) ∷ expr_truth true ∷ expr_var 4 ∷ []) ≡ code_lit (pos 3) ∷ code_truth true ∷ v 4 ∷ []
leaves = refl

lists : map coded (expr_set_of (exprs_of (a ∷ b ∷ [])) ∷ expr_tuple (exprs_of (b ∷ a ∷ c ∷ [])) ∷ []) ≡
    code_set_of (codes_of pair) ∷ code_tuple (codes_of (v 1 ∷ v 0 ∷ v 2 ∷ [])) ∷ []
lists = refl

one_part : map coded (expr_neg a ∷ expr_not a ∷ expr_card a ∷ expr_divides (pos 3) a ∷ expr_div a (pos 4) ∷ expr_mod a (pos 5) ∷ []) ≡
    code_neg (v 0) ∷ code_not (v 0) ∷ code_card (v 0) ∷ code_divides (pos 3) (v 0) ∷ code_div (v 0) (pos 4) ∷ code_mod (v 0) (pos 5) ∷ []
one_part = refl

absolute : coded (expr_abs a) ≡ code_let 5 1 (v 0) (code_max (codes_of (v 5 ∷ code_neg (v 5) ∷ [])))
absolute = refl

two_parts : map (λ o. coded (expr_binary o a b)) (Add ∷ Sub ∷ Mul ∷ And ∷ Or ∷ Union ∷ Inter ∷ Diff ∷ Subset ∷ Implies ∷ Compare Lt ∷ []) ≡
    code_sum (codes_of pair) ∷ code_sub (v 0) (v 1) ∷ code_mul (v 0) (v 1) ∷ code_and (v 0) (v 1) ∷ code_or (v 0) (v 1) ∷ code_union (codes_of pair)
    ∷ code_inter (codes_of pair) ∷ code_diff (v 0) (v 1) ∷ code_subset (v 0) (v 1) ∷ code_if (v 0) (v 1) (code_truth true) ∷ code_compare Lt (v 0) (v 1) ∷ []
two_parts = refl

choice : coded (expr_if a b c) ≡ code_if (v 0) (v 1) (v 2)
choice = refl

-- what is bound stands in the body alone, where the next level is two more
binding : coded (expr_let 2 (expr_abs a) (expr_abs (expr_var 6))) ≡
    code_let 5 2 (code_let 5 1 (v 0) (code_max (codes_of (v 5 ∷ code_neg (v 5) ∷ []))))
    (code_let 7 1 (v 6) (code_max (codes_of (v 7 ∷ code_neg (v 7) ∷ []))))
binding = refl

called : map coded (expr_call 3 (exprs_of []) ∷ expr_call 3 (exprs_of (a ∷ [])) ∷ expr_call 4 (exprs_of (a ∷ b ∷ [])) ∷ []) ≡
    code_lit (pos 103) ∷ code_let 5 1 (v 0) (code_lit (pos 103)) ∷ code_let 5 2 (code_tuple (codes_of pair)) (code_lit (pos 104)) ∷ []
called = refl

-- a form of `HasNoForm`
abbrev forms : ExprTree → List ExprTree
forms e =
    expr_chain (Lt ∷ Lt ∷ []) (exprs_of (e ∷ e ∷ e ∷ [])) ∷ expr_min (exprs_of (e ∷ e ∷ [])) ∷ expr_max (exprs_of (e ∷ e ∷ []))
    ∷ expr_choose_where 7 [] [] [] holds_always e at_any ∷ []

no_codes_of_forms : map coded (forms a) ≡ code_tuple no_codes ∷ code_tuple no_codes ∷ code_tuple no_codes ∷ code_tuple no_codes ∷ []
no_codes_of_forms = refl

-- a choose, and a match that is not lowered
chosen : map coded (expr_choose 7 [] [] rel_false ∷ expr_match 8 [] a (match_arms_of []) ∷ []) ≡ code_solve 7 (arms_of []) ∷ code_tuple no_codes ∷ []
chosen = refl

-- ---- chooses
abbrev choose : ℕ → ExprTree
choose n = expr_choose n [] [] rel_false

abbrev numbers_in : ExprTree → List ℕ
numbers_in e = map (λ q. q.number) (chooses_in e)

in_leaves : map numbers_in (expr_lit (pos 3) ∷ expr_truth true ∷ a ∷ []) ≡ [] ∷ [] ∷ [] ∷ []
in_leaves = refl

in_one_part : map numbers_in (choose 1 ∷ expr_neg (choose 1) ∷ expr_not (choose 1) ∷ expr_abs (choose 1) ∷ expr_divides (pos 3) (choose 1)
    ∷ expr_div (choose 1) (pos 3) ∷ expr_mod (choose 1) (pos 3) ∷ expr_card (choose 1) ∷ []) ≡
    (1 ∷ []) ∷ (1 ∷ []) ∷ (1 ∷ []) ∷ (1 ∷ []) ∷ (1 ∷ []) ∷ (1 ∷ []) ∷ (1 ∷ []) ∷ (1 ∷ []) ∷ []
in_one_part = refl

in_more_parts : map numbers_in (expr_binary Sub (choose 1) (choose 2) ∷ expr_let 1 (choose 1) (choose 2) ∷ expr_if (choose 1) (choose 2) (choose 3) ∷ []) ≡
    (1 ∷ 2 ∷ []) ∷ (1 ∷ 2 ∷ []) ∷ (1 ∷ 2 ∷ 3 ∷ []) ∷ []
in_more_parts = refl

in_forms : map numbers_in (forms (choose 1)) ≡ (1 ∷ 1 ∷ 1 ∷ []) ∷ (1 ∷ 1 ∷ []) ∷ (1 ∷ 1 ∷ []) ∷ [] ∷ []
in_forms = refl

in_lists : map numbers_in (expr_set_of (exprs_of (choose 1 ∷ choose 2 ∷ [])) ∷ expr_tuple (exprs_of (choose 1 ∷ choose 2 ∷ []))
    ∷ expr_call 0 (exprs_of (choose 1 ∷ choose 2 ∷ [])) ∷ []) ≡
    (1 ∷ 2 ∷ []) ∷ (1 ∷ 2 ∷ []) ∷ (1 ∷ 2 ∷ []) ∷ []
in_lists = refl

in_a_match : numbers_in (expr_match 9 [] (choose 1) (match_arms_of (match_arm 1 [] (pos 0) (choose 2) ∷ match_arm 2 [] (pos 0) (choose 3) ∷ []))) ≡
    1 ∷ 2 ∷ 3 ∷ []
in_a_match = refl
