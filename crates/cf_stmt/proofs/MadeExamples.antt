-- Worked examples: the blocks that are made of codes.
use Rattle.std.specs.Prelude.{ℕ, ℤ, pos, negsuc, ◌≡◌, [], ◌∷◌, Some, refl}
use Rattle.cf_tree.specs.declared.base.Order.TheVariants.{Ge}
use Rattle.cf_tree.specs.CodeTree.{CodeTree, code_lit, code_var, code_sum, code_sub, code_compare, code_mul, code_min, code_tuple, code_if, code_let, code_solve, let_item, need_item, arm_of, codes_of, items_of, arms_of}
use Rattle.cf_tree.specs.Meaning.{got, none_at}
use Rattle.cf_tree.specs.Values.{number}
use Rattle.cf_stmt.specs.Blocks.{give, none, leave, part, join, test, arm, exec}
use Rattle.cf_stmt.specs.Fitting.{plain}
use Rattle.cf_stmt.specs.Made.{block_of}

abbrev var : ℕ → CodeTree
var x = code_var x

abbrev num : ℕ → CodeTree
num k = code_lit (pos k)

-- what the block of a code does on one number
abbrev Ends : CodeTree → ℤ → ℕ → ℕ → Type 0
Ends c z n p = ((exec (block_of plain c) (number z ∷ [])).gives ≡ none_at n) × ((exec (block_of plain c) (number z ∷ [])).peak ≡ p)

abbrev Gives : CodeTree → ℤ → ℤ → ℕ → Type 0
Gives c z w p = ((exec (block_of plain c) (number z ∷ [])).gives ≡ got (Some (number w ∷ []))) × ((exec (block_of plain c) (number z ∷ [])).peak ≡ p)

-- two arms: the number less 10 where that is not negative, or else itself where it is not negative
abbrev two_arms : CodeTree
two_arms = code_solve 7 (arms_of (
    arm_of [] (items_of (let_item (code_sub (var 0) (num 10)) ∷ need_item (code_compare Ge (var 1) (num 0)) ∷ [])) (codes_of (var 1 ∷ [])) ∷
    arm_of [] (items_of (need_item (code_compare Ge (var 0) (num 0)) ∷ [])) (codes_of (var 0 ∷ [])) ∷ []))

first_arm : Gives two_arms (pos 12) (pos 2) 12
first_arm = (refl, refl)

second_arm : Gives two_arms (pos 4) (pos 4) 10
second_arm = (refl, refl)

no_arm : Ends two_arms (negsuc 4) 7 15
no_arm = (refl, refl)

-- a search: the first k below 6 with k + k at least the number
abbrev search_of : CodeTree
search_of = code_solve 3 (arms_of (
    arm_of (6 ∷ []) (items_of (need_item (code_compare Ge (code_sum (codes_of (var 1 ∷ var 1 ∷ []))) (var 0)) ∷ [])) (codes_of (var 1 ∷ [])) ∷ []))

found : Gives search_of (pos 5) (pos 3) 6
found = (refl, refl)

not_found : Ends search_of (pos 11) 3 11
not_found = (refl, refl)

-- a let of a solve, and a sum over it
let_of_solve : Gives (code_let 1 1 two_arms (code_sum (codes_of (var 0 ∷ var 1 ∷ [])))) (pos 12) (pos 14) 14
let_of_solve = (refl, refl)

-- a solve in the middle of a sum: what comes before it is added and bound first
abbrev in_a_sum : CodeTree
in_a_sum = code_sum (codes_of (var 0 ∷ num 100 ∷ two_arms ∷ num 3 ∷ []))

-- 12 + 100 + 2 + 3
middle : Gives in_a_sum (pos 12) (pos 117) 117
middle = (refl, refl)

-- the partial sum 96 is met before the solve has no solution
middle_none : Ends in_a_sum (negsuc 3) 7 100
middle_none = (refl, refl)

-- the first solve behind one variable more: levels rise by the parts before
abbrev needs_more : CodeTree
needs_more = code_solve 1 (arms_of (arm_of [] (items_of (need_item (code_compare Ge (var 0) (num 0)) ∷ [])) (codes_of (var 0 ∷ [])) ∷ []))

least_block : block_of plain (code_min (codes_of (num 9 ∷ needs_more ∷ var 0 ∷ []))) ≡
    part (give (num 9)) (part (arm [] (test (give (code_compare Ge (var 1) (num 0))) (give (code_tuple (codes_of (var 1 ∷ [])))) leave) (none 1))
    (part (give (var 2)) (give (code_min (codes_of (var 2 ∷ var 1 ∷ var 0 ∷ []))))))
least_block = refl

sum_block_is : block_of plain (code_sum (codes_of (num 9 ∷ num 8 ∷ needs_more ∷ var 0 ∷ []))) ≡
    part (give (code_sum (codes_of (num 9 ∷ num 8 ∷ [])))) (part
    (arm [] (test (give (code_compare Ge (var 1) (num 0))) (give (code_tuple (codes_of (var 1 ∷ [])))) leave) (none 1))
    (give (code_sum (codes_of (var 1 ∷ var 0 ∷ var 2 ∷ [])))))
sum_block_is = refl

least : Gives (code_min (codes_of (num 9 ∷ needs_more ∷ var 0 ∷ []))) (pos 4) (pos 4) 9
least = (refl, refl)

-- a part of a tuple, and a part behind a test
tuple_block_is : block_of plain (code_tuple (codes_of (num 9 ∷ needs_more ∷ []))) ≡
    join (give (num 9)) (join (arm [] (test (give (code_compare Ge (var 0) (num 0))) (give (code_tuple (codes_of (var 0 ∷ [])))) leave) (none 1))
    (give (code_tuple (codes_of []))))
tuple_block_is = refl

behind_a_test : Gives (code_if (code_compare Ge (num 3) (var 0)) (num 5) needs_more) (pos 4) (pos 4) 4
behind_a_test = (refl, refl)

behind_no_test : Gives (code_if (code_compare Ge (num 3) (var 0)) (num 5) needs_more) (negsuc 4) (pos 5) 5
behind_no_test = (refl, refl)

-- an operation on two parts: the second searches behind the value of the first
two_parts : Gives (code_sub needs_more search_of) (pos 4) (pos 2) 4
two_parts = (refl, refl)

-- an operation whose second part stays where it is
one_part : Gives (code_sub search_of (code_mul (num 2) (var 0))) (pos 4) (negsuc 5) 8
one_part = (refl, refl)
