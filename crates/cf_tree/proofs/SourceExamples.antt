-- Worked examples that hold down what a source allows.
use Rattle.std.specs.Prelude.{ℕ, ℤ, pos, negsuc, ◌≡◌, List, [], ◌∷◌, length}
use Rattle.std.proofs.Common.{refl, inl, inr, ap, arith}
use Rattle.std.proofs.lemmas.Int.{ints}
use Rattle.cf_tree.specs.declared.base.Base.TheVariants.{Int, Set}
use Rattle.cf_tree.specs.declared.base.Order.TheVariants.{Eq, Le, Ne}
use Rattle.cf_tree.specs.Allowed.{Allowed, ProgramAllows, goes_on, ends_at, pattern_value}
use Rattle.cf_tree.specs.ExprTree.{ExprTree, expr_lit, expr_var, expr_tuple, expr_div, expr_mod, expr_choose, expr_let, expr_match, expr_call, exprs_of, match_arm, match_arms_of}
use Rattle.cf_tree.specs.RelTree.{RelTree, rel_compare, rel_same_set, rel_and, term_lit, term_var, term_card, term_add, term_mul, term_div, term_mod, term_abs, set_var, empty_set, union_of, inter_of}
use Rattle.cf_tree.specs.Relation.{Sol, val, IsLinear}
use Rattle.cf_tree.specs.Values.{number, elements, Outcome, values, no_solution, number_of, first_of}

abbrev value : ℤ → Outcome
value z = values (number z ∷ [])

-- choose number k of one number with 0 <= x and x <= 1; x has level n
abbrev bit : ℕ → ℕ → ExprTree
bit k n =
    expr_choose k [] (Int ∷ []) (rel_and (rel_compare Le (term_lit (pos 0)) (term_var n)) (rel_compare Le (term_var n) (term_lit (pos 1))))

-- each of several solutions is allowed, and nothing else
bit-allows_0 : Allowed [] (bit 1 0) [] (value (pos 0))
bit-allows_0 = (((pos 0, refl), tt), (omega (arith, ints), omega (arith, ints)))

bit-allows_1 : Allowed [] (bit 1 0) [] (value (pos 1))
bit-allows_1 = (((pos 1, refl), tt), (omega (arith, ints), omega (arith, ints)))

bit-allows_no_2 : Allowed [] (bit 1 0) [] (value (pos 2)) → ⊥
bit-allows_no_2 s = omega (arith, ints, s.1.1)

bit-allows_solution_only : Allowed [] (bit 1 0) [] (no_solution 1) → ⊥
bit-allows_solution_only s = s.1 (number (pos 0) ∷ []) bit-allows_0

-- x == a and a != 5, on a = 5
abbrev never : ExprTree
never = expr_choose 1 [] (Int ∷ []) (rel_and (rel_compare Eq (term_var 1) (term_var 0)) (rel_compare Ne (term_var 0) (term_lit (pos 5))))

never-allows_none : Allowed [] never (number (pos 5) ∷ []) (no_solution 1)
never-allows_none = (refl, λ xs s. s.1.1 refl)

-- a choose commits: where x is 0, the second choose finds nothing, though x = 1 would have helped
abbrev commits : ExprTree
commits =
    expr_let 1 (bit 1 1) (expr_choose 2 [] (Int ∷ [])
    (rel_and (rel_compare Eq (term_var 2) (term_var 0)) (rel_compare Eq (term_var 1) (term_lit (pos 1)))))

zero_is_not_one : number (pos 0) ≡ number (pos 1) → ⊥
zero_is_not_one e = omega (arith, ints, ap number_of e)

commits-allows_7 : Allowed [] commits (number (pos 7) ∷ []) (value (pos 7))
commits-allows_7 = goes_on (number (pos 1) ∷ []) (((pos 1, refl), tt), (omega (arith, ints), omega (arith, ints))) (((pos 7, refl), tt), (refl, refl))

commits-allows_none : Allowed [] commits (number (pos 7) ∷ []) (no_solution 2)
commits-allows_none =
    goes_on (number (pos 0) ∷ []) (((pos 0, refl), tt), (omega (arith, ints), omega (arith, ints)))
    (refl, λ xs s. zero_is_not_one (ap number s.1.1))

-- 6 * i, then 2 * i, then any number: the first arm that fits is taken
abbrev sorted : ExprTree
sorted =
    expr_match 1 [] (expr_var 0) (match_arms_of (
    match_arm 2 (pos 6 ∷ []) (pos 0) (expr_lit (pos 1))
    ∷ match_arm 3 (pos 2 ∷ []) (pos 0) (expr_lit (pos 2))
    ∷ []))

sorted-at_12 : Allowed [] sorted (number (pos 12) ∷ []) (value (pos 1))
sorted-at_12 = goes_on (number (pos 12) ∷ []) refl (inl (pos 2 ∷ [], (refl, refl), refl))

-- the first number of an outcome
abbrev number_in : Outcome → ℤ
number_in (values vs) = number_of (first_of vs)
number_in (no_solution n) = pos 0

-- 5 is no multiple of 6 nor of 2
no_sixth : (is : List ℤ) → length is ≡ 1 → pos 5 ≡ pattern_value (pos 6 ∷ []) (pos 0) is → ⊥
no_sixth [] e h = omega (arith, ints, h)
no_sixth (i ∷ is) e h = omega (arith, ints, h)

no_half : (is : List ℤ) → length is ≡ 1 → pos 5 ≡ pattern_value (pos 2 ∷ []) (pos 0) is → ⊥
no_half [] e h = omega (arith, ints, h)
no_half (i ∷ is) e h = omega (arith, ints, h)

sorted-at_12_only : Allowed [] sorted (number (pos 12) ∷ []) (value (pos 2)) → ⊥
sorted-at_12_only (goes_on vs e (inl s)) = omega (arith, ints, ap number_in s.2)
sorted-at_12_only (goes_on vs e (inr s)) = s.0 (pos 2 ∷ []) (refl, ap number_in e)
sorted-at_12_only (ends_at n e o) = cc

sorted-at_5 : Allowed [] sorted (number (pos 5) ∷ []) (no_solution 1)
sorted-at_5 =
    goes_on (number (pos 5) ∷ []) refl (inr (λ is s. no_sixth is s.0 s.1, inr (λ is s. no_half is s.0 s.1, refl)))

-- the second function calls the first: div and mod of -3 by 2
abbrev halves : ExprTree
halves = expr_tuple (exprs_of (expr_div (expr_var 0) (pos 2) ∷ expr_mod (expr_var 0) (pos 2) ∷ []))

abbrev calls_halves : ExprTree
calls_halves = expr_call 0 (exprs_of (expr_var 0 ∷ []))

call-allows : ProgramAllows (halves ∷ calls_halves ∷ []) 1 (number (negsuc 2) ∷ []) (values (number (negsuc 1) ∷ number (pos 1) ∷ []))
call-allows =
    goes_on (number (negsuc 2) ∷ []) (goes_on (number (negsuc 2) ∷ []) refl (goes_on [] refl refl))
    (goes_on (number (negsuc 1) ∷ []) (goes_on (number (negsuc 2) ∷ []) refl refl)
    (goes_on (number (pos 1) ∷ []) (goes_on (number (pos 1) ∷ []) (goes_on (number (negsuc 2) ∷ []) refl refl) (goes_on [] refl refl)) refl))

-- l union r == s, l inter r == {} and card(l) == card(r) + 1, of {1, 2, 3}
abbrev splits : RelTree
splits =
    rel_and (rel_and (rel_same_set (union_of (set_var 1) (set_var 2)) (set_var 0)) (rel_same_set (inter_of (set_var 1) (set_var 2)) empty_set))
    (rel_compare Eq (term_card (set_var 1)) (term_add (term_card (set_var 2)) (term_lit (pos 1))))

split-solves : Sol (Set ∷ Set ∷ []) splits (elements (pos 1 ∷ pos 2 ∷ pos 3 ∷ []) ∷ []) (elements (pos 1 ∷ pos 3 ∷ []) ∷ elements (pos 2 ∷ []) ∷ [])
split-solves =
    (((pos 1 ∷ pos 3 ∷ [], refl, ((omega (arith, ints), tt), (tt, tt))), ((pos 2 ∷ [], refl, (tt, tt)), tt)), ((refl, refl), refl))

-- div and mod of -7 by 2, and abs, in a relation
div-in_relation : val (term_div (term_lit (negsuc 6)) (pos 2)) [] ≡ negsuc 3
div-in_relation = refl

mod-in_relation : val (term_mod (term_lit (negsuc 6)) (pos 2)) [] ≡ pos 1
mod-in_relation = refl

abs-in_relation : val (term_abs (term_lit (negsuc 6))) [] ≡ pos 7
abs-in_relation = refl

-- an input may be a factor in no linear relation, a fixed sum may
product-of_variables : IsLinear (rel_compare Eq (term_mul (term_var 0) (term_var 1)) (term_var 2)) → ⊥
product-of_variables s = cc

product-with_sum : IsLinear (rel_compare Eq (term_mul (term_add (term_lit (pos 1)) (term_lit (pos 2))) (term_var 1)) (term_var 2))
product-with_sum = (((tt, tt), tt, refl), tt)
