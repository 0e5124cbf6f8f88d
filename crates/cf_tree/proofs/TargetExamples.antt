-- Worked examples that hold the meaning of target code down.
use Rattle.std.specs.Prelude.{ℕ, ◌^◌, ℤ, pos, negsuc, ◌≡◌, true, false, List, [], ◌∷◌, refl}
use Rattle.cf_tree.specs.declared.base.Order.TheVariants.{Eq, Ge, Le}
use Rattle.cf_tree.specs.CodeTree.{CodeTree, code_lit, code_truth, code_var, code_set_of, code_tuple, code_sum, code_sub, code_mul, code_div, code_mod, code_min, code_max, code_compare, code_divides, code_and, code_or, code_union, code_inter, code_slice, code_fresh, code_if, code_let, code_solve, ItemTree, let_item, need_item, ArmTree, arm_of, codes_of, items_of, arms_of}
use Rattle.cf_tree.specs.Meaning.{means, peak}
use Rattle.cf_tree.specs.Values.{Value, number, truth, elements, values, no_solution}

-- c times v
abbrev times : ℤ → ℕ → CodeTree
times c v = code_mul (code_lit c) (code_var v)

abbrev plus : CodeTree → CodeTree → CodeTree
plus a b = code_sum (codes_of (a ∷ b ∷ []))

abbrev bind : CodeTree → ItemTree
bind = let_item

-- a is at least 0
abbrev need : CodeTree → ItemTree
need a = need_item (code_compare Ge a (code_lit (pos 0)))

abbrev solve : List ArmTree → CodeTree
solve arms = code_solve 1 (arms_of arms)

abbrev arm : List ℕ → List ItemTree → List CodeTree → ArmTree
arm bounds is gs = arm_of bounds (items_of is) (codes_of gs)

abbrev numbers : List ℤ → List Value
numbers [] = []
numbers (z ∷ zs) = number z ∷ numbers zs

-- hours, minutes and seconds of a number of seconds
abbrev seconds : CodeTree
seconds =
    solve (arm [] (
    bind (code_div (code_var 0) (pos 60))
    ∷ bind (code_div (plus (code_lit (pos 59)) (times (negsuc 0) 0)) (pos 60))
    ∷ need (code_lit (pos 59))
    ∷ need (plus (code_var 1) (code_var 2))
    ∷ bind (code_div (plus (code_lit (pos 59)) (code_var 2)) (pos 60))
    ∷ bind (code_div (code_var 1) (pos 60))
    ∷ need (code_var 4)
    ∷ need (plus (code_var 3) (code_var 4))
    ∷ bind (times (negsuc 0) 4)
    ∷ bind (code_max (codes_of (plus (code_lit (negsuc 58)) (times (pos 60) 5) ∷ times (negsuc 0) 1 ∷ [])))
    ∷ bind (code_var 0)
    ∷ bind (times (negsuc 0) 6)
    ∷ bind (plus (code_var 7) (times (pos 60) 6))
    ∷ bind (times (negsuc 0) 5)
    ∷ bind (plus (code_var 8) (times (pos 60) 5))
    ∷ [])
    (code_var 10 ∷ code_var 11 ∷ code_var 9 ∷ []) ∷ [])

seconds-at_3661 : means seconds (numbers (pos 3661 ∷ [])) ≡ values (numbers (pos 1 ∷ pos 1 ∷ pos 1 ∷ []))
seconds-at_3661 = refl

seconds-at_0 : means seconds (numbers (pos 0 ∷ [])) ≡ values (numbers (pos 0 ∷ pos 0 ∷ pos 0 ∷ []))
seconds-at_0 = refl

seconds-below_0 : means seconds (numbers (negsuc 0 ∷ [])) ≡ no_solution 1
seconds-below_0 = refl

seconds-peak : peak seconds (numbers (pos 3661 ∷ [])) ≡ 3661
seconds-peak = refl

seconds-at_86399 : means seconds (numbers (pos 86399 ∷ [])) ≡ values (numbers (pos 23 ∷ pos 59 ∷ pos 59 ∷ []))
seconds-at_86399 = refl

-- the least x with a at most 2 * x, where 2 * x is at most b
abbrev rounding : CodeTree
rounding =
    solve (arm [] (
    bind (code_div (times (negsuc 0) 0) (pos 2))
    ∷ bind (code_div (code_var 1) (pos 2))
    ∷ need (plus (code_var 2) (code_var 3))
    ∷ bind (times (negsuc 0) 2)
    ∷ [])
    (code_var 4 ∷ []) ∷ [])

rounding-up : means rounding (numbers (pos 3 ∷ pos 4 ∷ [])) ≡ values (numbers (pos 2 ∷ []))
rounding-up = refl

rounding-none : means rounding (numbers (pos 3 ∷ pos 3 ∷ [])) ≡ no_solution 1
rounding-none = refl

rounding-none_below_0 : means rounding (numbers (negsuc 2 ∷ negsuc 2 ∷ [])) ≡ no_solution 1
rounding-none_below_0 = refl

rounding-even_below_0 : means rounding (numbers (negsuc 3 ∷ negsuc 3 ∷ [])) ≡ values (numbers (negsuc 1 ∷ []))
rounding-even_below_0 = refl

-- x and y with 3 * x + 5 * y = a, and y one of 0 and 1, by a search of three remainders
abbrev remainders : CodeTree
remainders =
    solve (arm (3 ∷ []) (
    need (times (negsuc 0) 1)
    ∷ bind (code_div (plus (times (negsuc 0) 0) (times (negsuc 0) 1)) (pos 3))
    ∷ bind (code_div (code_sum (codes_of (code_lit (pos 1) ∷ code_var 0 ∷ code_var 1 ∷ []))) (pos 3))
    ∷ need (plus (code_var 2) (code_var 3))
    ∷ bind (times (negsuc 0) 2)
    ∷ bind (plus (times (negsuc 0) 0) (times (negsuc 0) 1))
    ∷ bind (plus (code_var 5) (times (pos 3) 4))
    ∷ bind (plus (times (negsuc 1) 5) (times (negsuc 4) 4))
    ∷ bind (code_var 7)
    ∷ [])
    (code_var 8 ∷ code_var 6 ∷ []) ∷ [])

remainders-at_8 : means remainders (numbers (pos 8 ∷ [])) ≡ values (numbers (pos 1 ∷ pos 1 ∷ []))
remainders-at_8 = refl

remainders-at_6 : means remainders (numbers (pos 6 ∷ [])) ≡ values (numbers (pos 2 ∷ pos 0 ∷ []))
remainders-at_6 = refl

remainders-at_7 : means remainders (numbers (pos 7 ∷ [])) ≡ no_solution 1
remainders-at_7 = refl

-- two searches, below 2 and 3, for a sum: the first tuple in lexicographic order is taken
abbrev two_searches : CodeTree
two_searches =
    solve (arm (2 ∷ 3 ∷ [])
    (need_item (code_compare Eq (plus (code_var 1) (code_var 2)) (code_var 0)) ∷ [])
    (code_var 1 ∷ code_var 2 ∷ []) ∷ [])

two_searches-first : means two_searches (numbers (pos 1 ∷ [])) ≡ values (numbers (pos 0 ∷ pos 1 ∷ []))
two_searches-first = refl

two_searches-last : means two_searches (numbers (pos 3 ∷ [])) ≡ values (numbers (pos 1 ∷ pos 2 ∷ []))
two_searches-last = refl

two_searches-none : means two_searches (numbers (pos 4 ∷ [])) ≡ no_solution 1
two_searches-none = refl

-- the first arm whose needs hold is taken
two_arms : means (solve (arm [] (need (code_var 0) ∷ []) (code_lit (pos 1) ∷ []) ∷ arm [] [] (code_lit (pos 2) ∷ []) ∷ [])) (numbers (pos 5 ∷ []))
    ≡ values (numbers (pos 1 ∷ []))
two_arms = refl

no_arms_none : means (solve []) (numbers (pos 0 ∷ [])) ≡ no_solution 1
no_arms_none = refl

-- a product that passes the limit is met, whatever becomes of it
product-peak : peak (code_compare Le (code_mul (code_var 0) (code_var 0)) (code_lit (pos 0))) (numbers (pos (2 ^ 64) ∷ [])) ≡ 2 ^ 128
product-peak = refl

-- a partial sum is met also where the sum is small
sum-peak : peak (code_sum (codes_of (code_lit (pos 9) ∷ code_lit (pos 9) ∷ code_lit (negsuc 16) ∷ []))) [] ≡ 18
sum-peak = refl

-- the branch that is not taken meets nothing
if-peak : peak (code_if (code_truth false) (code_lit (pos 100)) (code_lit (pos 7))) [] ≡ 7
if-peak = refl

-- the right side is not evaluated where the left one decides
or-skips : means (code_or (code_truth true) (code_compare Eq (solve []) (code_lit (pos 0)))) [] ≡ values (truth true ∷ [])
or-skips = refl

and-skips : means (code_and (code_truth false) (code_compare Eq (solve []) (code_lit (pos 0)))) [] ≡ values (truth false ∷ [])
and-skips = refl

div-below_0 : means (code_div (code_lit (negsuc 6)) (pos 2)) [] ≡ values (numbers (negsuc 3 ∷ []))
div-below_0 = refl

mod-below_0 : means (code_mod (code_lit (negsuc 6)) (pos 2)) [] ≡ values (numbers (pos 1 ∷ []))
mod-below_0 = refl

divides-below_0 : means (code_divides (pos 3) (code_lit (negsuc 5))) [] ≡ values (truth true ∷ [])
divides-below_0 = refl

let-tuple : means (code_let 0 2 (code_tuple (codes_of (code_lit (pos 3) ∷ code_lit (pos 4) ∷ []))) (code_sub (code_var 0) (code_var 1))) []
    ≡ values (numbers (negsuc 0 ∷ []))
let-tuple = refl

min-of_three : means (code_min (codes_of (code_lit (pos 3) ∷ code_lit (negsuc 1) ∷ code_lit (pos 4) ∷ []))) [] ≡ values (numbers (negsuc 1 ∷ []))
min-of_three = refl

-- sets are rising and hold no element twice
set-of : means (code_set_of (codes_of (code_lit (pos 3) ∷ code_lit (pos 1) ∷ code_lit (pos 2) ∷ code_lit (pos 1) ∷ []))) []
    ≡ values (elements (pos 1 ∷ pos 2 ∷ pos 3 ∷ []) ∷ [])
set-of = refl

abbrev three : List ℤ
three = negsuc 4 ∷ pos 1 ∷ pos 8 ∷ []

union-of : means (code_union (codes_of (code_var 0 ∷ code_var 1 ∷ []))) (elements three ∷ elements (pos 1 ∷ pos 2 ∷ []) ∷ [])
    ≡ values (elements (negsuc 4 ∷ pos 1 ∷ pos 2 ∷ pos 8 ∷ []) ∷ [])
union-of = refl

inter-of : means (code_inter (codes_of (code_var 0 ∷ code_var 1 ∷ []))) (elements three ∷ elements (pos 1 ∷ pos 2 ∷ []) ∷ [])
    ≡ values (elements (pos 1 ∷ []) ∷ [])
inter-of = refl

slice-of : means (code_slice (code_var 0) (code_lit (pos 1)) (code_lit (pos 5))) (elements three ∷ []) ≡ values (elements (pos 1 ∷ pos 8 ∷ []) ∷ [])
slice-of = refl

slice-from_below_0 : means (code_slice (code_var 0) (code_lit (negsuc 3)) (code_lit (pos 2))) (elements three ∷ []) ≡ values
    (elements (negsuc 4 ∷ pos 1 ∷ []) ∷ [])
slice-from_below_0 = refl

fresh-beside : means (code_fresh (code_var 0) (code_lit (pos 2))) (elements (pos 0 ∷ pos 2 ∷ []) ∷ []) ≡ values (elements (pos 1 ∷ pos 3 ∷ []) ∷ [])
fresh-beside = refl

-- each fresh element is met
fresh-peak : peak (code_fresh (code_var 0) (code_lit (pos 2))) (elements (pos 0 ∷ pos 2 ∷ []) ∷ []) ≡ 3
fresh-peak = refl

fresh-none : means (code_fresh (code_var 0) (code_lit (negsuc 0))) (elements (pos 0 ∷ []) ∷ []) ≡ values (elements [] ∷ [])
fresh-none = refl
