-- What settling makes of a code: which lets go, and which stay, which comparisons are decided, and which sets are empty.
use Rattle.std.proofs.Common.{◌≡◌, ◌^◌, ◌-◌, pos, negsuc, true, false, [], ◌∷◌, refl, arith}
use Rattle.std.proofs.lemmas.Int.{ints}
use Rattle.cf_tree.specs.declared.base.Order.TheVariants.{Eq, Ne, Lt, Le, Gt, Ge}
use Rattle.cf_tree.specs.CodeTree.{CodeTree, code_lit, code_truth, code_var, code_set_of, code_tuple, code_sum, code_mul, code_neg, code_div, code_mod, code_compare, code_and, code_union, code_inter, code_diff, code_card, code_slice, code_fresh, code_if, code_let, code_solve, CodeTrees, no_codes, code_more, let_item, need_item, no_items, item_more, arm_of, no_arms, arm_more}
use Rattle.cf_tree.specs.Values.{number, elements}
use Rattle.cf_range.specs.declared.range.Range.{Range}
use Rattle.cf_range.specs.Alike.{AnswersAlike}
use Rattle.cf_range.specs.Put.{fallen, put}
use Rattle.cf_range.specs.Ranges.{between, whole}
use Rattle.cf_range.specs.Settled.{comparison, slice_settled, fresh_settled, union_settled, gives_so_many, stands_anywhere, up_to, uses, weight, with_wholes, bare, items_dropped, settled}

abbrev x : CodeTree
x = code_var 0

abbrev y : CodeTree
y = code_var 1

abbrev z : CodeTree
z = code_var 2

abbrev one : CodeTree → CodeTrees
one a = code_more a no_codes

abbrev two : CodeTree → CodeTree → CodeTrees
two a b = code_more a (one b)

-- ---- a value in the place of a variable
put-here : put 1 (code_lit (pos 5)) (code_sum (two x y)) ≡ code_sum (two x (code_lit (pos 5)))
put-here = refl

put-above : put 1 (code_lit (pos 5)) (code_sum (two z (code_var 3))) ≡ code_sum (two y z)
put-above = refl

-- a let takes the level that is free
put-let : put 1 x (code_let 2 1 y (code_sum (two y z))) ≡ code_let 1 1 x (code_sum (two x y))
put-let = refl

put-arm : put 0 (code_lit (pos 5))
    (code_solve 1 (arm_more (arm_of (3 ∷ []) (item_more (let_item x) (item_more (need_item y) no_items)) (one z)) no_arms))
    ≡ code_solve 1 (arm_more (arm_of (3 ∷ []) (item_more (let_item (code_lit (pos 5))) (item_more (need_item x) no_items)) (one y)) no_arms)
put-arm = refl

-- ---- how many values
gives-one : gives_so_many 1 x ≡ true
gives-one = refl

gives-not_two : gives_so_many 2 x ≡ false
gives-not_two = refl

gives-tuple : gives_so_many 2 (code_tuple (two x y)) ≡ true
gives-tuple = refl

gives-tuple_in_tuple : gives_so_many 2 (code_tuple (two x (code_tuple (two x y)))) ≡ false
gives-tuple_in_tuple = refl

gives-second_of_and : gives_so_many 1 (code_and x (code_tuple (two x y))) ≡ false
gives-second_of_and = refl

gives-if : gives_so_many 1 (code_if x y (code_tuple (two x y))) ≡ false
gives-if = refl

gives-arms : gives_so_many 2 (code_solve 1 (arm_more (arm_of [] no_items (two x y)) (arm_more (arm_of [] no_items (one x)) no_arms))) ≡ false
gives-arms = refl

-- ---- how often
uses-twice : uses 0 (code_sum (two x (code_neg x))) ≡ 2
uses-twice = refl

uses-other : uses 0 (code_neg y) ≡ 0
uses-other = refl

uses-given : uses 0 (code_tuple (two y x)) ≡ 9
uses-given = refl

uses-in_a_give : uses 0 (code_tuple (two y (code_neg x))) ≡ 1
uses-in_a_give = refl

-- ---- what stands anywhere
stands-levels : stands_anywhere 1 (code_neg y) ≡ false
stands-levels = refl

stands-below : stands_anywhere 2 (code_neg y) ≡ true
stands-below = refl

stands-solve : stands_anywhere 2 (code_solve 1 no_arms) ≡ false
stands-solve = refl

-- ---- lets
settled-variable : settled (whole ∷ []) (code_let 1 1 x (code_sum (two y y))) ≡ code_sum (two x x)
settled-variable = refl

settled-literal : settled [] (code_let 0 1 (code_lit (pos 5)) (code_sum (two x x))) ≡ code_sum (two (code_lit (pos 5)) (code_lit (pos 5)))
settled-literal = refl

-- a number past the limit has to be met
settled-past : settled [] (code_let 0 1 (code_lit (pos (2 ^ 127))) (code_truth true)) ≡ code_let 0 1 (code_lit (pos (2 ^ 127))) (code_truth true)
settled-past = refl

-- without the let the overflow would be lost
settled-past_lost : AnswersAlike [] (code_let 0 1 (code_lit (pos (2 ^ 127))) (code_truth true)) (code_truth true) → ⊥
settled-past_lost h = let l = ((h [] tt).1 (omega arith)).0 in omega (arith, l)

settled-once : settled (whole ∷ []) (code_let 1 1 (code_neg x) (code_div y (pos 2))) ≡ code_div (code_neg x) (pos 2)
settled-once = refl

settled-never : settled (whole ∷ []) (code_let 1 1 (code_div x (pos 2)) x) ≡ x
settled-never = refl

settled-may_pass : settled (whole ∷ []) (code_let 1 1 (code_sum (two x x)) (code_neg x)) ≡ code_let 1 1 (code_sum (two x x)) (code_neg x)
settled-may_pass = refl

-- the range of the variable tells that the sum does not pass
settled-in_range : settled (between (pos 0) (pos 9) ∷ []) (code_let 1 1 (code_sum (two x x)) (code_neg y)) ≡ code_neg (code_sum (two x x))
settled-in_range = refl

settled-twice : settled (whole ∷ []) (code_let 1 1 (code_div x (pos 4)) (code_sum (two y y))) ≡ code_let 1 1 (code_div x (pos 4)) (code_sum (two y y))
settled-twice = refl

-- a negation of a variable also where it is used more than once
settled-negation : settled (whole ∷ []) (code_let 1 1 (code_neg x) (code_sum (two y y))) ≡ code_sum (two (code_neg x) (code_neg x))
settled-negation = refl

settled-given : settled (whole ∷ []) (code_let 1 1 (code_neg x) (code_tuple (two y x))) ≡ code_let 1 1 (code_neg x) (code_tuple (two y x))
settled-given = refl

-- the range of a let that stays is known behind it
settled-behind : settled (whole ∷ []) (code_let 1 1 (code_div x (pos 4)) (code_let 2 1 (code_sum (two y y)) (code_neg z)))
    ≡ code_let 1 1 (code_div x (pos 4)) (code_neg (code_sum (two y y)))
settled-behind = refl

-- one that goes has others fall
settled-falls : settled (whole ∷ []) (code_let 1 1 x (code_let 2 1 (code_div y (pos 4)) (code_sum (two z z))))
    ≡ code_let 1 1 (code_div x (pos 4)) (code_sum (two y y))
settled-falls = refl

settled-two_values : settled (whole ∷ []) (code_let 1 2 (code_tuple (two x x)) (code_let 3 1 z (code_neg (code_var 3))))
    ≡ code_let 1 2 (code_tuple (two x x)) (code_neg z)
settled-two_values = refl

-- behind a let of which it is not known how many values it has, nothing changes
settled-unknown : settled (whole ∷ []) (code_let 1 2 x (code_let 3 1 (code_lit (pos 0)) (code_neg (code_var 3))))
    ≡ code_let 1 2 x (code_let 3 1 (code_lit (pos 0)) (code_neg (code_var 3)))
settled-unknown = refl

-- ---- arms: behind one search, a let of a variable, a need, a let that is used once, and one that is given
settled-arm : settled (whole ∷ []) (code_solve 1 (arm_more (arm_of (3 ∷ [])
    (item_more (let_item x) (item_more (need_item (code_compare Ge z (code_lit (pos 0)))) (item_more (let_item (code_div z (pos 4)))
    (item_more (let_item (code_neg (code_var 3))) no_items)))) (two (code_var 4) y)) no_arms))
    ≡ code_solve 1 (arm_more (arm_of (3 ∷ []) (item_more (need_item (code_compare Ge x (code_lit (pos 0))))
    (item_more (let_item (code_neg (code_div x (pos 4)))) no_items)) (two z y)) no_arms)
settled-arm = refl

-- a let of two values in an arm: nothing changes
settled-arm_unknown : settled [] (code_solve 1 (arm_more (arm_of [] (item_more (let_item (code_tuple (two x x))) (item_more (let_item (code_lit (pos 5))) no_items))
    (one (code_neg y))) no_arms))
    ≡ code_solve 1 (arm_more (arm_of [] (item_more (let_item (code_tuple (two x x))) (item_more (let_item (code_lit (pos 5))) no_items)) (one (code_neg y))) no_arms)
settled-arm_unknown = refl

-- what is left of these items stands in the place of the arm's own
items_dropped-two : items_dropped (whole ∷ []) (item_more (let_item x) (item_more (need_item y) no_items)) (arm_of (3 ∷ []) no_items (one (code_neg y)))
    ≡ arm_of (3 ∷ []) (item_more (need_item x) no_items) (one (code_neg x))
items_dropped-two = refl

bare-arm : bare (arm_of (3 ∷ []) (item_more (let_item x) no_items) (one y)) ≡ arm_of (3 ∷ []) no_items (one y)
bare-arm = refl

up_to-sum : up_to 9 4 5 ≡ 9
up_to-sum = refl

up_to-most : up_to 9 5 6 ≡ 9
up_to-most = refl

weight-of_parts : weight (code_sum (two x (code_neg y))) ≡ 4
weight-of_parts = refl

weight-most : weight (code_tuple no_codes) ≡ 15
weight-most = refl

with_wholes-two : with_wholes (between (pos 0) (pos 9) ∷ []) 2 ≡ between (pos 0) (pos 9) ∷ whole ∷ whole ∷ []
with_wholes-two = refl

fallen-above : fallen 3 5 ≡ 4
fallen-above = refl

fallen-below : fallen 3 2 ≡ 2
fallen-below = refl

-- ---- a comparison of a variable with itself
comparison-eq : comparison [] Eq x x ≡ code_truth true
comparison-eq = refl

comparison-ne : comparison [] Ne x x ≡ code_truth false
comparison-ne = refl

comparison-lt : comparison [] Lt x x ≡ code_truth false
comparison-lt = refl

comparison-le : comparison [] Le x x ≡ code_truth true
comparison-le = refl

comparison-gt : comparison [] Gt x x ≡ code_truth false
comparison-gt = refl

comparison-ge : comparison [] Ge x x ≡ code_truth true
comparison-ge = refl

comparison-two : comparison [] Lt x y ≡ code_compare Lt x y
comparison-two = refl

comparison-two_totals : comparison [] Eq (code_neg x) (code_neg x) ≡ code_compare Eq (code_neg x) (code_neg x)
comparison-two_totals = refl

-- ---- a comparison that the ranges decide
abbrev digit : Range
digit = between (pos 0) (pos 9)

abbrev ten : CodeTree
ten = code_lit (pos 10)

abbrev nine : CodeTree
nine = code_lit (pos 9)

ranges-lt : comparison (digit ∷ []) Lt x ten ≡ code_truth true
ranges-lt = refl

ranges-lt_end : comparison (digit ∷ []) Lt x nine ≡ code_compare Lt x nine
ranges-lt_end = refl

ranges-lt_never : comparison (digit ∷ []) Lt x (code_lit (pos 0)) ≡ code_truth false
ranges-lt_never = refl

ranges-le : comparison (digit ∷ []) Le x nine ≡ code_truth true
ranges-le = refl

ranges-le_never : comparison (digit ∷ []) Le ten x ≡ code_truth false
ranges-le_never = refl

ranges-gt : comparison (digit ∷ []) Gt ten x ≡ code_truth true
ranges-gt = refl

ranges-gt_never : comparison (digit ∷ []) Gt x nine ≡ code_truth false
ranges-gt_never = refl

ranges-ge : comparison (digit ∷ []) Ge x (code_lit (pos 0)) ≡ code_truth true
ranges-ge = refl

ranges-ge_never : comparison (digit ∷ []) Ge x ten ≡ code_truth false
ranges-ge_never = refl

ranges-eq : comparison [] Eq (code_lit (pos 9)) nine ≡ code_truth true
ranges-eq = refl

ranges-eq_never : comparison (digit ∷ []) Eq ten x ≡ code_truth false
ranges-eq_never = refl

ranges-eq_above : comparison (digit ∷ []) Eq (code_lit (negsuc 0)) x ≡ code_truth false
ranges-eq_above = refl

ranges-eq_open : comparison (digit ∷ []) Eq nine x ≡ code_compare Eq nine x
ranges-eq_open = refl

ranges-ne : comparison (digit ∷ []) Ne ten x ≡ code_truth true
ranges-ne = refl

ranges-ne_never : comparison [] Ne nine nine ≡ code_truth false
ranges-ne_never = refl

-- a variable may be a set, which is no number
ranges-eq_variable : comparison (digit ∷ []) Eq x ten ≡ code_compare Eq x ten
ranges-eq_variable = refl

-- the empty set counts as 0, and is compared as a set
ranges-eq_set : AnswersAlike (digit ∷ []) (code_compare Eq x ten) (code_truth false) → ⊥
ranges-eq_set h = let e = ((h (elements [] ∷ []) ((omega arith, omega (arith, ints), omega (arith, ints)), (tt, omega (arith, ints)), tt)).0 (omega arith)).1 in cc

ranges-of_codes : comparison (digit ∷ digit ∷ []) Gt (code_sum (two x (code_sum (two y (code_lit (pos 1)))))) (code_neg x) ≡ code_truth true
ranges-of_codes = refl

-- a sum that may pass is met
ranges-may_pass : comparison (whole ∷ []) Ge (code_sum (two (code_mod x (pos 2)) (code_mul x x))) (code_lit (negsuc (2 ^ 127 - 2)))
    ≡ code_compare Ge (code_sum (two (code_mod x (pos 2)) (code_mul x x))) (code_lit (negsuc (2 ^ 127 - 2)))
ranges-may_pass = refl

-- so on the other side
ranges-past : comparison [] Ge (code_lit (pos 0)) (code_lit (negsuc (2 ^ 127 - 1))) ≡ code_compare Ge (code_lit (pos 0)) (code_lit (negsuc (2 ^ 127 - 1)))
ranges-past = refl

settled-comparison : settled (whole ∷ []) (code_and (code_compare Lt x x) (code_compare Le (code_mod x (pos 3)) (code_lit (pos 2))))
    ≡ code_and (code_truth false) (code_truth true)
settled-comparison = refl

-- ---- sets that are empty
abbrev none : CodeTree
none = code_set_of no_codes

abbrev zero : CodeTree
zero = code_lit (pos 0)

slice-none : slice_settled [] x y zero ≡ none
slice-none = refl

slice-some : slice_settled [] x y (code_lit (pos 1)) ≡ code_slice x y (code_lit (pos 1))
slice-some = refl

-- the set, or the place, may pass the limit
slice-of_fresh : slice_settled [] (code_fresh x y) y zero ≡ code_slice (code_fresh x y) y zero
slice-of_fresh = refl

slice-at_a_sum : slice_settled [] x (code_sum (two y y)) zero ≡ code_slice x (code_sum (two y y)) zero
slice-at_a_sum = refl

slice-at_a_small_sum : slice_settled (digit ∷ digit ∷ []) x (code_sum (two y y)) zero ≡ none
slice-at_a_small_sum = refl

fresh-none : fresh_settled [] x zero ≡ none
fresh-none = refl

fresh-some : fresh_settled [] x (code_lit (pos 1)) ≡ code_fresh x (code_lit (pos 1))
fresh-some = refl

fresh-of_fresh : fresh_settled [] (code_fresh x y) zero ≡ code_fresh (code_fresh x y) zero
fresh-of_fresh = refl

union-some : union_settled (code_more none (code_more x (code_more none (one y)))) ≡ code_union (two x y)
union-some = refl

union-none : union_settled (two none none) ≡ none
union-none = refl

-- a set of one number is not empty
union-number : union_settled (two (code_set_of (one x)) y) ≡ code_union (two (code_set_of (one x)) y)
union-number = refl

-- other forms that may be empty are not looked at
union-other : union_settled (two (code_diff x x) y) ≡ code_union (two (code_diff x x) y)
union-other = refl

union-one_set : union_settled (two none (code_set_of (one x))) ≡ code_set_of (one x)
union-one_set = refl

union-one_union : union_settled (two (code_union (two x y)) none) ≡ code_union (two x y)
union-one_union = refl

union-one_inter : union_settled (two (code_inter (two x y)) none) ≡ code_inter (two x y)
union-one_inter = refl

union-one_diff : union_settled (two (code_diff x y) none) ≡ code_diff x y
union-one_diff = refl

union-one_slice : union_settled (two none (code_slice x y z)) ≡ code_slice x y z
union-one_slice = refl

union-one_fresh : union_settled (two (code_fresh x y) none) ≡ code_fresh x y
union-one_fresh = refl

-- a variable may be no set
union-one_variable : union_settled (two none x) ≡ code_union (two x none)
union-one_variable = refl

union-variable_alone : AnswersAlike (whole ∷ []) (code_union (two x none)) x → ⊥
union-variable_alone h =
    let e = ((h (number (pos 3) ∷ []) ((omega arith, omega (arith, ints), omega (arith, ints)), tt, tt)).0 (omega arith)).1 in cc

settled-sets : settled (whole ∷ whole ∷ []) (code_union (two (code_slice x y zero) (code_slice x y (code_lit (pos 1))))) ≡ code_slice x y (code_lit (pos 1))
settled-sets = refl

-- the empty set goes into its places
settled-empty : settled (whole ∷ []) (code_let 1 1 (code_fresh x zero) (code_inter (two y y))) ≡ code_inter (two none none)
settled-empty = refl

-- a set of a number does not
settled-set : settled (whole ∷ []) (code_let 1 1 (code_set_of (one x)) (code_card y)) ≡ code_let 1 1 (code_set_of (one x)) (code_card y)
settled-set = refl
