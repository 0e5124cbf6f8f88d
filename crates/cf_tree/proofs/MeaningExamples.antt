-- Worked examples that hold down each form of target code: its value, and the greatest number that is met on the way.
use Rattle.std.specs.Prelude.{ℕ, ℤ, pos, negsuc, ◌≡◌, Bool, true, false, List, [], ◌∷◌, refl}
use Rattle.cf_tree.specs.declared.base.Order.{Order}
use Rattle.cf_tree.specs.declared.base.Order.TheVariants.{Eq, Ne, Lt, Le, Gt, Ge}
use Rattle.cf_tree.specs.CodeTree.{CodeTree, code_lit, code_truth, code_var, code_set_of, code_tuple, code_sum, code_sub, code_mul, code_neg, code_div, code_mod, code_min, code_max, code_compare, code_divides, code_and, code_or, code_not, code_union, code_inter, code_diff, code_subset, code_card, code_slice, code_fresh, code_if, code_let, code_solve, ItemTree, let_item, need_item, ArmTree, arm_of, codes_of, items_of, arms_of, no_codes}
use Rattle.cf_tree.specs.Meaning.{means, peak}
use Rattle.cf_tree.specs.Values.{Value, number, truth, elements, values, no_solution}

-- a code gives these values, and p is the greatest number met
abbrev Shows : CodeTree → List Value → List Value → ℕ → Type 0
Shows code env vs p = (means code env ≡ values vs) × (peak code env ≡ p)

-- a code has no solution at n, and p is the greatest number met
abbrev Ends : CodeTree → List Value → ℕ → ℕ → Type 0
Ends code env n p = (means code env ≡ no_solution n) × (peak code env ≡ p)

abbrev lit : ℤ → CodeTree
lit k = code_lit k

abbrev var : ℕ → CodeTree
var x = code_var x

-- a solve without arms
abbrev nothing : ℕ → CodeTree
nothing n = code_solve n (arms_of [])

-- a code of two parts, with the variables 0 and 1
abbrev of_two : (CodeTree → CodeTree → CodeTree) → CodeTree
of_two form = form (var 0) (var 1)

abbrev sum_of : List CodeTree → CodeTree
sum_of cs = code_sum (codes_of cs)

abbrev numbers : List ℤ → List Value
numbers [] = []
numbers (z ∷ zs) = number z ∷ numbers zs

abbrev set : List ℤ → Value
set zs = elements zs

abbrev yes : List Value
yes = truth true ∷ []

abbrev no : List Value
no = truth false ∷ []

-- literals and variables: a number is met, also a negative one; a truth value and a set are not
lit-negative : Shows (lit (negsuc 6)) [] (numbers (negsuc 6 ∷ [])) 7
lit-negative = (refl, refl)

truths : (Shows (code_truth true) [] yes 0) × (Shows (code_truth false) [] no 0)
truths = ((refl, refl), (refl, refl))

var-number : Shows (var 1) (number (pos 2) ∷ number (negsuc 8) ∷ []) (numbers (negsuc 8 ∷ [])) 9
var-number = (refl, refl)

var-truth : Shows (var 0) (truth true ∷ []) yes 0
var-truth = (refl, refl)

var-set : Shows (var 0) (set (pos 7 ∷ []) ∷ []) (set (pos 7 ∷ []) ∷ []) 0
var-set = (refl, refl)

-- tuples are flat and in order; the elements of a set are met
tuple-in_order : Shows (code_tuple (codes_of (lit (pos 3) ∷ code_truth true ∷ var 0 ∷ []))) (set (pos 9 ∷ []) ∷ []) (number (pos 3) ∷ truth true ∷ set
    (pos 9 ∷ []) ∷ []) 3
tuple-in_order = (refl, refl)

set-met : Shows (code_set_of (codes_of (lit (pos 4) ∷ lit (negsuc 5) ∷ lit (pos 4) ∷ []))) [] (set (negsuc 5 ∷ pos 4 ∷ []) ∷ []) 6
set-met = (refl, refl)

set-empty : Shows (code_set_of no_codes) [] (set [] ∷ []) 0
set-empty = (refl, refl)

-- numbers
sum-of_three : Shows (sum_of (lit (pos 5) ∷ lit (negsuc 8) ∷ lit (pos 3) ∷ [])) [] (numbers (negsuc 0 ∷ [])) 9
sum-of_three = (refl, refl)

sum-partial : Shows (sum_of (lit (negsuc 4) ∷ lit (negsuc 4) ∷ lit (pos 10) ∷ [])) [] (numbers (pos 0 ∷ [])) 10
sum-partial = (refl, refl)

sum-partial_negative : Shows (sum_of (lit (negsuc 4) ∷ lit (negsuc 4) ∷ lit (pos 1) ∷ [])) [] (numbers (negsuc 8 ∷ [])) 10
sum-partial_negative = (refl, refl)

sub-of : Shows (code_sub (lit (pos 3)) (lit (pos 10))) [] (numbers (negsuc 6 ∷ [])) 10
sub-of = (refl, refl)

sub-met : Shows (code_sub (lit (pos 5)) (lit (negsuc 8))) [] (numbers (pos 14 ∷ [])) 14
sub-met = (refl, refl)

mul-of : Shows (code_mul (lit (negsuc 2)) (lit (pos 4))) [] (numbers (negsuc 11 ∷ [])) 12
mul-of = (refl, refl)

mul-by_0 : Shows (code_mul (lit (pos 7)) (lit (pos 0))) [] (numbers (pos 0 ∷ [])) 7
mul-by_0 = (refl, refl)

neg-of : Shows (code_neg (lit (negsuc 4))) [] (numbers (pos 5 ∷ [])) 5
neg-of = (refl, refl)

div-of : Shows (code_div (lit (negsuc 6)) (pos 2)) [] (numbers (negsuc 3 ∷ [])) 7
div-of = (refl, refl)

mod-of : Shows (code_mod (lit (negsuc 0)) (pos 10)) [] (numbers (pos 9 ∷ [])) 9
mod-of = (refl, refl)

min-of : Shows (code_min (codes_of (lit (pos 3) ∷ lit (negsuc 9) ∷ lit (pos 4) ∷ []))) [] (numbers (negsuc 9 ∷ [])) 10
min-of = (refl, refl)

min-of_one : Shows (code_min (codes_of (lit (pos 8) ∷ []))) [] (numbers (pos 8 ∷ [])) 8
min-of_one = (refl, refl)

max-of : Shows (code_max (codes_of (lit (pos 3) ∷ lit (negsuc 9) ∷ lit (pos 4) ∷ []))) [] (numbers (pos 4 ∷ [])) 10
max-of = (refl, refl)

max-below_0 : Shows (code_max (codes_of (lit (negsuc 4) ∷ lit (negsuc 2) ∷ []))) [] (numbers (negsuc 2 ∷ [])) 5
max-below_0 = (refl, refl)

card-of : Shows (code_card (var 0)) (set (negsuc 8 ∷ pos 1 ∷ pos 5 ∷ []) ∷ []) (numbers (pos 3 ∷ [])) 3
card-of = (refl, refl)

-- comparisons, of a smaller, an equal and a greater number
abbrev Answers : Order → Bool → Bool → Bool → Type 0
Answers order less same more =
    (Shows (of_two (code_compare order)) (numbers (negsuc 1 ∷ pos 1 ∷ [])) (truth less ∷ []) 2)
    × (Shows (of_two (code_compare order)) (numbers (pos 1 ∷ pos 1 ∷ [])) (truth same ∷ []) 1)
    × (Shows (of_two (code_compare order)) (numbers (pos 1 ∷ negsuc 1 ∷ [])) (truth more ∷ []) 2)

compares-eq : Answers Eq false true false
compares-eq = ((refl, refl), (refl, refl), (refl, refl))

compares-ne : Answers Ne true false true
compares-ne = ((refl, refl), (refl, refl), (refl, refl))

compares-lt : Answers Lt true false false
compares-lt = ((refl, refl), (refl, refl), (refl, refl))

compares-le : Answers Le true true false
compares-le = ((refl, refl), (refl, refl), (refl, refl))

compares-gt : Answers Gt false false true
compares-gt = ((refl, refl), (refl, refl), (refl, refl))

compares-ge : Answers Ge false true true
compares-ge = ((refl, refl), (refl, refl), (refl, refl))

-- == and != of truth values and of sets
same-truths : (Shows (of_two (code_compare Eq)) (truth true ∷ truth true ∷ []) yes 0)
    × (Shows (of_two (code_compare Eq)) (truth false ∷ truth false ∷ []) yes 0)
    × (Shows (of_two (code_compare Eq)) (truth true ∷ truth false ∷ []) no 0) × (Shows (of_two (code_compare Ne)) (truth false ∷ truth true ∷ []) yes 0)
same-truths = ((refl, refl), (refl, refl), (refl, refl), (refl, refl))

same-sets : (Shows (of_two (code_compare Eq)) (set (pos 1 ∷ pos 2 ∷ []) ∷ set (pos 1 ∷ pos 2 ∷ []) ∷ []) yes 0)
    × (Shows (of_two (code_compare Eq)) (set (pos 1 ∷ pos 2 ∷ []) ∷ set (pos 1 ∷ pos 3 ∷ []) ∷ []) no 0)
    × (Shows (of_two (code_compare Eq)) (set (pos 1 ∷ []) ∷ set (pos 1 ∷ pos 3 ∷ []) ∷ []) no 0)
    × (Shows (of_two (code_compare Eq)) (set (pos 1 ∷ pos 3 ∷ []) ∷ set (pos 1 ∷ []) ∷ []) no 0)
    × (Shows (of_two (code_compare Ne)) (set (pos 1 ∷ []) ∷ set [] ∷ []) yes 0)
same-sets = ((refl, refl), (refl, refl), (refl, refl), (refl, refl), (refl, refl))

divides-both : (Shows (code_divides (pos 3) (lit (pos 9))) [] yes 9) × (Shows (code_divides (pos 3) (lit (pos 10))) [] no 10)
divides-both = ((refl, refl), (refl, refl))

-- truth
abbrev Table : (CodeTree → CodeTree → CodeTree) → Bool → Bool → Bool → Bool → Type 0
Table form yy yn ny nn =
    (means (of_two form) (truth true ∷ truth true ∷ []) ≡ values (truth yy ∷ []))
    × (means (of_two form) (truth true ∷ truth false ∷ []) ≡ values (truth yn ∷ []))
    × (means (of_two form) (truth false ∷ truth true ∷ []) ≡ values (truth ny ∷ []))
    × (means (of_two form) (truth false ∷ truth false ∷ []) ≡ values (truth nn ∷ []))

and-table : Table code_and true false false false
and-table = (refl, refl, refl, refl)

or-table : Table code_or true true true false
or-table = (refl, refl, refl, refl)

not-table : (Shows (code_not (code_truth true)) [] no 0) × (Shows (code_not (code_truth false)) [] yes 0)
not-table = ((refl, refl), (refl, refl))

-- what decides alone meets nothing of the other side; else the other side's numbers are met
and-meets : (Shows (code_and (code_truth false) (code_compare Eq (lit (pos 9)) (lit (pos 9)))) [] no 0)
    × (Shows (code_and (code_truth true) (code_compare Eq (lit (pos 9)) (lit (pos 9)))) [] yes 9)
and-meets = ((refl, refl), (refl, refl))

or-meets : (Shows (code_or (code_truth true) (code_compare Eq (lit (pos 9)) (lit (pos 8)))) [] yes 0)
    × (Shows (code_or (code_truth false) (code_compare Eq (lit (pos 9)) (lit (pos 8)))) [] no 9)
or-meets = ((refl, refl), (refl, refl))

-- sets
abbrev ones : List Value
ones = set (pos 1 ∷ pos 2 ∷ pos 3 ∷ []) ∷ set (pos 2 ∷ pos 3 ∷ pos 4 ∷ []) ∷ set (pos 3 ∷ pos 5 ∷ []) ∷ []

union-of_three : Shows (code_union (codes_of (var 0 ∷ var 1 ∷ var 2 ∷ []))) ones (set (pos 1 ∷ pos 2 ∷ pos 3 ∷ pos 4 ∷ pos 5 ∷ []) ∷ []) 0
union-of_three = (refl, refl)

inter-of_three : Shows (code_inter (codes_of (var 0 ∷ var 1 ∷ var 2 ∷ []))) ones (set (pos 3 ∷ []) ∷ []) 0
inter-of_three = (refl, refl)

diff-of : Shows (of_two code_diff) ones (set (pos 1 ∷ []) ∷ []) 0
diff-of = (refl, refl)

subset-of : (Shows (of_two code_subset) (set (pos 2 ∷ []) ∷ set (pos 1 ∷ pos 2 ∷ []) ∷ []) yes 0)
    × (Shows (of_two code_subset) (set (pos 1 ∷ pos 2 ∷ []) ∷ set (pos 2 ∷ []) ∷ []) no 0)
    × (Shows (of_two code_subset) (set (pos 1 ∷ []) ∷ set (pos 2 ∷ []) ∷ []) no 0)
subset-of = ((refl, refl), (refl, refl), (refl, refl))

slice-of : Shows (code_slice (var 0) (lit (pos 1)) (lit (pos 1))) ones (set (pos 2 ∷ []) ∷ []) 1
slice-of = (refl, refl)

-- places and counts are met, elements of a slice are not; a negative count is none
slice-met : Shows (code_slice (var 1) (lit (pos 0)) (lit (negsuc 7))) ones (set [] ∷ []) 8
slice-met = (refl, refl)

slice-past : Shows (code_slice (var 1) (lit (pos 2)) (lit (pos 7))) ones (set (pos 4 ∷ []) ∷ []) 7
slice-past = (refl, refl)

fresh-of : Shows (code_fresh (var 0) (lit (pos 2))) (set (negsuc 0 ∷ pos 0 ∷ pos 1 ∷ pos 3 ∷ []) ∷ []) (set (pos 2 ∷ pos 4 ∷ []) ∷ []) 4
fresh-of = (refl, refl)

-- if and let
if-true : Shows (code_if (code_compare Le (lit (pos 3)) (lit (pos 7))) (lit (pos 1)) (lit (pos 90))) [] (numbers (pos 1 ∷ [])) 7
if-true = (refl, refl)

if-false : Shows (code_if (code_compare Le (lit (pos 9)) (lit (pos 7))) (lit (pos 90)) (lit (pos 2))) [] (numbers (pos 2 ∷ [])) 9
if-false = (refl, refl)

-- a let's variable is read behind another
let-behind : Shows (code_let 1 1 (lit (pos 20)) (code_sub (var 0) (var 1))) (numbers (pos 5 ∷ [])) (numbers (negsuc 14 ∷ [])) 20
let-behind = (refl, refl)

-- the first part without a solution ends the whole, and no later number is met
first-sub : Ends (code_sub (nothing 1) (nothing 2)) [] 1 0
first-sub = (refl, refl)

second-sub : Ends (code_sub (lit (pos 5)) (nothing 2)) [] 2 5
second-sub = (refl, refl)

first-mul : (Ends (code_mul (nothing 1) (nothing 2)) [] 1 0) × (Ends (code_mul (lit (pos 5)) (nothing 2)) [] 2 5)
first-mul = ((refl, refl), (refl, refl))

first-compare : (Ends (code_compare Le (nothing 1) (nothing 2)) [] 1 0) × (Ends (code_compare Le (lit (pos 5)) (nothing 2)) [] 2 5)
first-compare = ((refl, refl), (refl, refl))

first-diff : (Ends (code_diff (nothing 1) (nothing 2)) [] 1 0) × (Ends (code_diff (var 0) (nothing 2)) (set [] ∷ []) 2 0)
first-diff = ((refl, refl), (refl, refl))

first-subset : (Ends (code_subset (nothing 1) (nothing 2)) [] 1 0) × (Ends (code_subset (var 0) (nothing 2)) (set [] ∷ []) 2 0)
first-subset = ((refl, refl), (refl, refl))

first-slice : (Ends (code_slice (nothing 1) (nothing 2) (nothing 3)) [] 1 0) × (Ends (code_slice (var 0) (nothing 2) (nothing 3)) (set [] ∷ []) 2 0)
    × (Ends (code_slice (var 0) (lit (pos 4)) (nothing 3)) (set [] ∷ []) 3 4)
first-slice = ((refl, refl), (refl, refl), (refl, refl))

first-fresh : (Ends (code_fresh (nothing 1) (nothing 2)) [] 1 0) × (Ends (code_fresh (var 0) (nothing 2)) (set [] ∷ []) 2 0)
first-fresh = ((refl, refl), (refl, refl))

in-sum : Ends (sum_of (lit (pos 3) ∷ lit (pos 4) ∷ nothing 2 ∷ lit (pos 100) ∷ [])) [] 2 7
in-sum = (refl, refl)

in-tuple : Ends (code_tuple (codes_of (lit (pos 3) ∷ nothing 2 ∷ nothing 3 ∷ []))) [] 2 3
in-tuple = (refl, refl)

in-set : Ends (code_set_of (codes_of (lit (pos 3) ∷ nothing 2 ∷ nothing 3 ∷ []))) [] 2 3
in-set = (refl, refl)

in-min : (Ends (code_min (codes_of (lit (pos 3) ∷ nothing 2 ∷ nothing 3 ∷ []))) [] 2 3)
    × (Ends (code_max (codes_of (lit (pos 3) ∷ nothing 2 ∷ nothing 3 ∷ []))) [] 2 3)
in-min = ((refl, refl), (refl, refl))

in-union : (Ends (code_union (codes_of (var 0 ∷ nothing 2 ∷ nothing 3 ∷ []))) (set [] ∷ []) 2 0)
    × (Ends (code_inter (codes_of (var 0 ∷ nothing 2 ∷ nothing 3 ∷ []))) (set [] ∷ []) 2 0)
in-union = ((refl, refl), (refl, refl))

in-one_part : (Ends (code_neg (nothing 1)) [] 1 0) × (Ends (code_div (nothing 1) (pos 2)) [] 1 0) × (Ends (code_mod (nothing 1) (pos 2)) [] 1 0)
    × (Ends (code_divides (pos 2) (nothing 1)) [] 1 0) × (Ends (code_not (nothing 1)) [] 1 0) × (Ends (code_card (nothing 1)) [] 1 0)
in-one_part = ((refl, refl), (refl, refl), (refl, refl), (refl, refl), (refl, refl), (refl, refl))

in-truth : (Ends (code_and (nothing 1) (nothing 2)) [] 1 0) × (Ends (code_and (code_truth true) (nothing 2)) [] 2 0)
    × (Ends (code_or (nothing 1) (nothing 2)) [] 1 0) × (Ends (code_or (code_truth false) (nothing 2)) [] 2 0)
in-truth = ((refl, refl), (refl, refl), (refl, refl), (refl, refl))

in-if : (Ends (code_if (nothing 1) (nothing 2) (nothing 3)) [] 1 0) × (Ends (code_if (code_truth true) (nothing 2) (nothing 3)) [] 2 0)
    × (Ends (code_if (code_truth false) (nothing 2) (nothing 3)) [] 3 0)
in-if = ((refl, refl), (refl, refl), (refl, refl))

in-let : (Ends (code_let 0 1 (nothing 1) (nothing 2)) [] 1 0) × (Ends (code_let 0 1 (lit (pos 6)) (nothing 2)) [] 2 6)
in-let = ((refl, refl), (refl, refl))

-- a solve
abbrev is : CodeTree → CodeTree → ItemTree
is a b = need_item (code_compare Eq a b)

abbrev arm : List ℕ → List ItemTree → List CodeTree → ArmTree
arm bounds items gives = arm_of bounds (items_of items) (codes_of gives)

-- the first arm fails and the second holds; what the first arm would give is not met
solve-second_arm : Shows (code_solve 1 (arms_of (arm [] (is (lit (pos 1)) (lit (pos 2)) ∷ []) (lit (pos 50) ∷ []) ∷ arm [] [] (lit (pos 7) ∷ lit
    (pos 8) ∷ []) ∷ arm [] [] (lit (pos 60) ∷ []) ∷ []))) [] (numbers (pos 7 ∷ pos 8 ∷ [])) 8
solve-second_arm = (refl, refl)

-- a need that fails comes before a large number
solve-stops : Ends (code_solve 4 (arms_of (arm [] (is (lit (pos 1)) (lit (pos 2)) ∷ let_item (lit (pos 100)) ∷ []) (lit (pos 50) ∷ []) ∷ []))) [] 4 2
solve-stops = (refl, refl)

-- lets are bound in order, behind the environment and the searches
solve-lets : Shows (code_solve 1 (arms_of (arm (1 ∷ []) (let_item (sum_of (var 0 ∷ var 1 ∷ lit (pos 1) ∷ [])) ∷ need_item (code_compare Eq (var 2) (lit
    (pos 6))) ∷ let_item (code_sub (var 2) (var 0)) ∷ []) (var 3 ∷ var 2 ∷ var 1 ∷ []) ∷ []))) (numbers (pos 5 ∷ [])) (numbers (pos 1 ∷ pos 6 ∷ pos 0 ∷ [])) 6
solve-lets = (refl, refl)

-- a search value is met; the first at which the needs hold is taken, and no later one is met
search-first : Shows (code_solve 1 (arms_of (arm (9 ∷ []) (need_item (code_compare Le (lit (pos 1)) (var 0)) ∷ need_item (code_compare Le (lit (pos 3))
    (var 0)) ∷ []) (code_truth true ∷ []) ∷ []))) [] yes 3
search-first = (refl, refl)

search-fails : Ends (code_solve 2 (arms_of (arm (9 ∷ []) (need_item (code_truth false) ∷ []) (lit (pos 50) ∷ []) ∷ []))) [] 2 8
search-fails = (refl, refl)

-- the last of two searches goes first
search-order : Shows (code_solve 1 (arms_of (arm (4 ∷ 3 ∷ []) (is (sum_of (var 0 ∷ var 1 ∷ [])) (lit (pos 2)) ∷ []) (var 0 ∷ var 1 ∷ []) ∷ []))) []
    (numbers (pos 0 ∷ pos 2 ∷ [])) 2
search-order = (refl, refl)

search-order_next : Shows (code_solve 1 (arms_of (arm (4 ∷ 3 ∷ []) (is (sum_of (var 0 ∷ var 1 ∷ [])) (lit (pos 3)) ∷ []) (var 0 ∷ var 1 ∷ []) ∷ []))) []
    (numbers (pos 1 ∷ pos 2 ∷ [])) 3
search-order_next = (refl, refl)

-- a let or a need without a solution, as in code that is not well typed, ends the whole
solve-in_item : (Ends (code_solve 1 (arms_of (arm [] (let_item (nothing 2) ∷ []) [] ∷ []))) [] 2 0)
    × (Ends (code_solve 1 (arms_of (arm [] (need_item (nothing 3) ∷ []) [] ∷ []))) [] 3 0)
    × (Ends (code_solve 1 (arms_of (arm [] [] (nothing 4 ∷ []) ∷ []))) [] 4 0)
solve-in_item = ((refl, refl), (refl, refl), (refl, refl))

-- values of other bases, and variables that are not bound, count as 0, as false and as the empty set
harmless-numbers : (means (code_neg (var 0)) (truth true ∷ []) ≡ values (numbers (pos 0 ∷ [])))
    × (means (code_neg (var 0)) (set (pos 4 ∷ []) ∷ []) ≡ values (numbers (pos 0 ∷ [])))
    × (means (code_sub (var 3) (lit (pos 1))) [] ≡ values (numbers (negsuc 0 ∷ [])))
harmless-numbers = (refl, refl, refl)

harmless-truths : (means (code_not (var 0)) (number (pos 1) ∷ []) ≡ values yes) × (means (code_not (var 0)) (set (pos 4 ∷ []) ∷ []) ≡ values yes)
harmless-truths = (refl, refl)

harmless-sets : (means (code_card (var 0)) (number (pos 1) ∷ []) ≡ values (numbers (pos 0 ∷ [])))
    × (means (code_card (var 0)) (truth true ∷ []) ≡ values (numbers (pos 0 ∷ [])))
harmless-sets = (refl, refl)

harmless-lists : (means (code_neg (code_tuple no_codes)) [] ≡ values (numbers (pos 0 ∷ []))) × (means (code_union no_codes) [] ≡ values (set [] ∷ []))
    × (means (code_min no_codes) [] ≡ values (numbers (pos 0 ∷ []))) × (means (code_div (lit (pos 7)) (pos 0)) [] ≡ values (numbers (pos 0 ∷ [])))
harmless-lists = (refl, refl, refl, refl)

harmless-sides : (means (of_two (code_compare Eq)) (number (pos 0) ∷ truth true ∷ []) ≡ values yes)
    × (means (of_two (code_compare Eq)) (truth false ∷ number (pos 4) ∷ []) ≡ values yes)
    × (means (of_two (code_compare Eq)) (set [] ∷ number (pos 4) ∷ []) ≡ values yes)
harmless-sides = (refl, refl, refl)
