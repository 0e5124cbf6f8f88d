-- Values of the definitions.
use Rattle.std.specs.Prelude.{◌≡◌, ◌≤◌, ◌^◌, pos, negsuc, neg_ℤ, ◌-◌, ℕ, ℤ, true, false, List, [], ◌∷◌, Some, None, refl}
use Rattle.std.specs.Int.{int_min, int_max}
use Rattle.std.proofs.Common.{arith}
use Rattle.std.proofs.lemmas.Int.{ints}
use Rattle.cf_num.specs.Limit.{limit}
use Rattle.cf_tree.specs.declared.base.Base.TheVariants.{Int, Bool as Truth, Set}
use Rattle.cf_tree.specs.declared.base.Order.TheVariants.{Lt}
use Rattle.cf_tree.specs.CodeTree.{CodeTree, code_lit, code_truth, code_var, code_set_of, code_tuple, code_sum, code_sub, code_mul, code_neg, code_div, code_mod, code_min, code_max, code_compare, code_divides, code_and, code_or, code_not, code_union, code_inter, code_diff, code_subset, code_card, code_slice, code_fresh, code_if, code_let, code_solve, CodeTrees, no_codes, code_more, no_arms}
use Rattle.cf_tree.specs.Values.{number, truth, elements}
use Rattle.cf_range.specs.declared.range.Range.{Range}
use Rattle.cf_range.specs.Ranges.{between, whole, LiesIn, LieIn, IsHeld, AreHeld, most_elements, param_range, range_at, passes, nearest, plus, minus, times, spanned, scaled, past_or_none, plus_passes, minus_passes, times_passes, negated, divided, left_by, sizes, plus_all, plus_all_passes, better_of, best_of, either}
use Rattle.cf_range.specs.CodeRanges.{range_of, may_pass}
use Rattle.cf_range.specs.Total.{is_total}

abbrev past : ℤ
past = pos (2 ^ 127)

abbrev half : ℤ
half = pos (2 ^ 64)

-- ---- what lies in a range
lies-at_an_end : LiesIn (between (pos 2) (pos 5)) (pos 5)
lies-at_an_end = (omega arith, omega (arith, ints), omega (arith, ints))

lies-not_above : LiesIn (between (pos 2) (pos 5)) (pos 6) → ⊥
lies-not_above h = omega (arith, ints, h.2)

lies-not_below : LiesIn (between (pos 2) (pos 5)) (pos 1) → ⊥
lies-not_below h = omega (arith, ints, h.1)

lies-not_past : LiesIn (between (pos 0) past) past → ⊥
lies-not_past h = omega (arith, h.0)

lie-one_for_each : LieIn (between (pos 2) (pos 5) ∷ between (pos 0) (pos 0) ∷ []) (number (pos 3) ∷ truth true ∷ [])
lie-one_for_each = ((omega arith, omega (arith, ints), omega (arith, ints)), tt, ((omega arith, omega (arith, ints), omega (arith, ints)), tt, tt))

lie-sized : LieIn (between (pos 0) (pos 2) ∷ []) (elements (pos 4 ∷ pos 7 ∷ []) ∷ [])
lie-sized = ((omega arith, omega (arith, ints), omega (arith, ints)), (((omega (arith, ints), tt), (tt, tt)), omega (arith, ints)), tt)

lie-too_many : LieIn (between (pos 0) (pos 1) ∷ []) (elements (pos 4 ∷ pos 7 ∷ []) ∷ []) → ⊥
lie-too_many h = omega (arith, ints, h.1.1)

lie-not_rising : LieIn (whole ∷ []) (elements (pos 7 ∷ pos 7 ∷ []) ∷ []) → ⊥
lie-not_rising h = omega (arith, ints, h.1.0.0.0)

lie-not_fewer : LieIn (whole ∷ []) [] → ⊥
lie-not_fewer h = h

lie-not_more : LieIn [] (number (pos 0) ∷ []) → ⊥
lie-not_more h = h

lie-second_too : LieIn (whole ∷ between (pos 1) (pos 1) ∷ []) (number (pos 0) ∷ number (pos 2) ∷ []) → ⊥
lie-second_too h = omega (arith, ints, h.2.0.2)

-- ---- parameters
param-number : param_range Int ≡ between (negsuc (2 ^ 127 - 2)) (pos (2 ^ 127 - 1))
param-number = refl

param-truth : param_range Truth ≡ between (negsuc (2 ^ 127 - 2)) (pos (2 ^ 127 - 1))
param-truth = refl

param-set : param_range Set ≡ between (pos 0) (pos (2 ^ 63 - 1))
param-set = refl

most-is : most_elements ≡ 2 ^ 63 - 1
most-is = refl

held-numbers : (IsHeld (number (pos 5)) ≡ Unit {0}) × (IsHeld (truth true) ≡ Unit {0})
held-numbers = (refl, refl)

held-set : IsHeld (elements (pos 4 ∷ [])) ≡ (1 ≤ most_elements)
held-set = refl

held-each : AreHeld (number (pos 5) ∷ elements (pos 4 ∷ []) ∷ []) ≡ (Unit {0} × ((1 ≤ most_elements) × Unit {0}))
held-each = refl

-- ---- ranges of variables
range_at-level : range_at (whole ∷ between (pos 1) (pos 2) ∷ []) 1 ≡ between (pos 1) (pos 2)
range_at-level = refl

range_at-none : range_at (between (pos 1) (pos 2) ∷ []) 1 ≡ between (negsuc (2 ^ 127 - 2)) (pos (2 ^ 127 - 1))
range_at-none = refl

-- ---- the limit
passes-not_limit : passes (pos (2 ^ 127 - 1)) ≡ false
passes-not_limit = refl

passes-above : passes past ≡ true
passes-above = refl

passes-below : passes (neg_ℤ past) ≡ true
passes-below = refl

nearest-within : nearest (negsuc 6) ≡ negsuc 6
nearest-within = refl

nearest-above : nearest past ≡ pos (2 ^ 127 - 1)
nearest-above = refl

nearest-below : nearest (neg_ℤ past) ≡ negsuc (2 ^ 127 - 2)
nearest-below = refl

past_or_none-none : past_or_none None ≡ true
past_or_none-none = refl

past_or_none-some : past_or_none (Some (pos 3)) ≡ false
past_or_none-some = refl

past_or_none-past : past_or_none (Some (neg_ℤ past)) ≡ true
past_or_none-past = refl

-- ---- arithmetic
plus-is : plus (between (pos 1) (pos 2)) (between (pos 30) (pos 50)) ≡ between (pos 31) (pos 52)
plus-is = refl

plus-cut : plus whole whole ≡ whole
plus-cut = refl

minus-is : minus (between (pos 1) (pos 2)) (between (pos 30) (pos 50)) ≡ between (negsuc 48) (negsuc 27)
minus-is = refl

minus-cut : minus whole whole ≡ whole
minus-cut = refl

spanned-is : (spanned (pos 3) (pos 1) ≡ between (pos 1) (pos 3)) × (spanned (pos 1) (pos 3) ≡ between (pos 1) (pos 3))
spanned-is = (refl, refl)

scaled-is : scaled (between (pos 1) (pos 2)) (negsuc 2) ≡ between (negsuc 5) (negsuc 2)
scaled-is = refl

times-both_positive : times (between (pos 2) (pos 3)) (between (pos 4) (pos 5)) ≡ between (pos 8) (pos 15)
times-both_positive = refl

times-first_negative : times (between (negsuc 2) (negsuc 1)) (between (pos 4) (pos 5)) ≡ between (negsuc 14) (negsuc 7)
times-first_negative = refl

times-second_negative : times (between (pos 2) (pos 3)) (between (negsuc 4) (negsuc 3)) ≡ between (negsuc 14) (negsuc 7)
times-second_negative = refl

times-both_negative : times (between (negsuc 2) (negsuc 1)) (between (negsuc 4) (negsuc 3)) ≡ between (pos 8) (pos 15)
times-both_negative = refl

times-cut : times (between (pos 0) half) (between (neg_ℤ half) half) ≡ whole
times-cut = refl

plus_passes-high : plus_passes (between (pos 0) (pos limit)) (between (pos 0) (pos 1)) ≡ true
plus_passes-high = refl

plus_passes-low : plus_passes (between (neg_ℤ (pos limit)) (pos 0)) (between (negsuc 0) (pos 0)) ≡ true
plus_passes-low = refl

plus_passes-not : plus_passes (between (pos 0) (pos limit)) (between (negsuc 0) (pos 0)) ≡ false
plus_passes-not = refl

minus_passes-high : minus_passes (between (pos 0) (pos limit)) (between (negsuc 0) (pos 0)) ≡ true
minus_passes-high = refl

minus_passes-low : minus_passes (between (neg_ℤ (pos limit)) (pos 0)) (between (pos 0) (pos 1)) ≡ true
minus_passes-low = refl

minus_passes-not : minus_passes (between (pos 0) (pos limit)) (between (pos 0) (pos 1)) ≡ false
minus_passes-not = refl

times_passes-low_low : times_passes (between (neg_ℤ half) (pos 0)) (between (neg_ℤ half) (pos 0)) ≡ true
times_passes-low_low = refl

times_passes-low_high : times_passes (between (neg_ℤ half) (pos 0)) (between (pos 0) half) ≡ true
times_passes-low_high = refl

times_passes-high_low : times_passes (between (pos 0) half) (between (neg_ℤ half) (pos 0)) ≡ true
times_passes-high_low = refl

times_passes-high_high : times_passes (between (pos 0) half) (between (pos 0) half) ≡ true
times_passes-high_high = refl

times_passes-not : times_passes (between (negsuc 2) (pos 2)) (between (negsuc 2) half) ≡ false
times_passes-not = refl

negated-is : negated (between (pos 2) (pos 5)) ≡ between (negsuc 4) (negsuc 1)
negated-is = refl

divided-is : divided (between (negsuc 6) (pos 7)) (pos 2) ≡ between (negsuc 3) (pos 3)
divided-is = refl

left_by-divisor : left_by whole (pos 60) ≡ between (pos 0) (pos 59)
left_by-divisor = refl

left_by-none : left_by (between (pos 1) (pos 2)) (pos 0) ≡ between (pos 1) (pos 2)
left_by-none = refl

plus_all-is : plus_all (between (pos 1) (pos 2)) (between (pos 10) (pos 20) ∷ between (pos 100) (pos 200) ∷ []) ≡ between (pos 111) (pos 222)
plus_all-is = refl

-- the last partial sum is 0, one before is past
plus_all_passes-partial : plus_all_passes (between (pos 0) (pos 0)) (between half half ∷ whole ∷ between (neg_ℤ half) (neg_ℤ half) ∷ []) ≡ true
plus_all_passes-partial = refl

plus_all_passes-last : plus_all_passes (between (pos 0) (pos 0)) (between half half ∷ whole ∷ []) ≡ true
plus_all_passes-last = refl

plus_all_passes-not : plus_all_passes (between (pos 0) (pos 0)) (between half half ∷ between (pos 1) half ∷ []) ≡ false
plus_all_passes-not = refl

better_of-least : better_of int_min (between (pos 1) (pos 9)) (between (pos 3) (pos 4)) ≡ between (pos 1) (pos 4)
better_of-least = refl

best_of-none : best_of int_max [] ≡ between (pos 0) (pos 0)
best_of-none = refl

best_of-three : best_of int_max (between (pos 1) (pos 2) ∷ between (pos 5) (pos 6) ∷ between (pos 3) (pos 9) ∷ []) ≡ between (pos 5) (pos 9)
best_of-three = refl

either-is : either (between (pos 3) (pos 4)) (between (pos 1) (pos 2)) ≡ between (pos 1) (pos 4)
either-is = refl

either-within : either (between (pos 1) (pos 9)) (between (pos 3) (pos 4)) ≡ between (pos 1) (pos 9)
either-within = refl

-- ---- codes over a number from 0 to 9, and one of the whole range
abbrev rs : List Range
rs = between (pos 0) (pos 9) ∷ whole ∷ []

abbrev x : CodeTree
x = code_var 0

abbrev y : CodeTree
y = code_var 1

abbrev lit : ℕ → CodeTree
lit n = code_lit (pos n)

abbrev two : CodeTree → CodeTree → CodeTrees
two a b = code_more a (code_more b no_codes)

range_of-lit : range_of rs (lit 7) ≡ between (pos 7) (pos 7)
range_of-lit = refl

range_of-lit_past : range_of rs (code_lit past) ≡ between (pos limit) (pos limit)
range_of-lit_past = refl

range_of-var : range_of rs x ≡ between (pos 0) (pos 9)
range_of-var = refl

range_of-sum : range_of rs (code_sum (two x (lit 5))) ≡ between (pos 5) (pos 14)
range_of-sum = refl

range_of-sub : range_of rs (code_sub (lit 5) x) ≡ between (negsuc 3) (pos 5)
range_of-sub = refl

range_of-mul : range_of rs (code_mul (code_lit (negsuc 1)) x) ≡ between (negsuc 17) (pos 0)
range_of-mul = refl

range_of-neg : range_of rs (code_neg x) ≡ between (negsuc 8) (pos 0)
range_of-neg = refl

range_of-div : range_of rs (code_div x (pos 2)) ≡ between (pos 0) (pos 4)
range_of-div = refl

range_of-mod : range_of rs (code_mod y (pos 2)) ≡ between (pos 0) (pos 1)
range_of-mod = refl

range_of-min : range_of rs (code_min (two x (lit 5))) ≡ between (pos 0) (pos 5)
range_of-min = refl

range_of-max : range_of rs (code_max (two x (lit 5))) ≡ between (pos 5) (pos 9)
range_of-max = refl

range_of-card : range_of rs (code_card (code_set_of no_codes)) ≡ between (pos 0) (pos limit)
range_of-card = refl

range_of-card_in_range : range_of rs (code_card x) ≡ between (pos 0) (pos 9)
range_of-card_in_range = refl

sizes-none : sizes (between (negsuc 4) (negsuc 0)) ≡ between (pos 0) (pos 0)
sizes-none = refl

range_of-if : range_of rs (code_if (code_truth true) x (lit 20)) ≡ between (pos 0) (pos 20)
range_of-if = refl

range_of-other : range_of rs (code_let 2 1 (lit 1) (code_var 2)) ≡ whole
range_of-other = refl

may_pass-lit : may_pass rs (code_lit past) ≡ true
may_pass-lit = refl

may_pass-not_lit : may_pass rs (lit 1) ≡ false
may_pass-not_lit = refl

may_pass-sum : may_pass rs (code_sum (two y x)) ≡ true
may_pass-sum = refl

may_pass-not_sum : may_pass rs (code_sum (two x x)) ≡ false
may_pass-not_sum = refl

may_pass-sub : may_pass rs (code_sub (lit 59) y) ≡ true
may_pass-sub = refl

may_pass-not_sub : may_pass rs (code_sub (lit 59) x) ≡ false
may_pass-not_sub = refl

may_pass-mul : may_pass rs (code_mul (lit 60) y) ≡ true
may_pass-mul = refl

may_pass-not_mul : may_pass rs (code_mul (lit 60) x) ≡ false
may_pass-not_mul = refl

-- only the parts may pass
may_pass-parts : may_pass rs (code_neg (code_mul (lit 60) y)) ≡ false
may_pass-parts = refl

may_pass-mod : may_pass rs (code_mod y past) ≡ true
may_pass-mod = refl

may_pass-not_mod : may_pass rs (code_mod y (pos 2)) ≡ false
may_pass-not_mod = refl

may_pass-card : may_pass rs (code_card (code_set_of no_codes)) ≡ true
may_pass-card = refl

may_pass-fresh : may_pass rs (code_fresh (code_set_of no_codes) y) ≡ true
may_pass-fresh = refl

may_pass-solve : may_pass rs (code_solve 1 no_arms) ≡ true
may_pass-solve = refl

-- ---- what is total
-- a part that is not
abbrev bad : CodeTree
bad = code_mul (lit 60) y

abbrev ok : CodeTree
ok = code_truth true

total-lit : is_total rs (lit 1) ≡ true
total-lit = refl

total-not_lit : is_total rs (code_lit past) ≡ false
total-not_lit = refl

total-var : is_total rs y ≡ true
total-var = refl

total-sum : is_total rs (code_sum (two x x)) ≡ true
total-sum = refl

total-not_sum : is_total rs (code_sum (two x y)) ≡ false
total-not_sum = refl

total-not_sum_of : is_total rs (code_sum (two (lit 0) bad)) ≡ false
total-not_sum_of = refl

total-sub : is_total rs (code_sub x x) ≡ true
total-sub = refl

total-not_sub : is_total rs (code_sub (lit 59) y) ≡ false
total-not_sub = refl

total-not_sub_of : (is_total rs (code_sub (lit 0) bad) ≡ false) × (is_total rs (code_sub bad (lit 0)) ≡ false)
total-not_sub_of = (refl, refl)

total-mul : is_total rs (code_mul x x) ≡ true
total-mul = refl

total-not_mul : is_total rs bad ≡ false
total-not_mul = refl

total-not_mul_of : (is_total rs (code_mul (lit 0) bad) ≡ false) × (is_total rs (code_mul bad (lit 0)) ≡ false)
total-not_mul_of = (refl, refl)

total-mod : is_total rs (code_mod y (pos 2)) ≡ true
total-mod = refl

total-not_mod : (is_total rs (code_mod y past) ≡ false) × (is_total rs (code_mod bad (pos 2)) ≡ false)
total-not_mod = (refl, refl)

total-forms : (is_total rs (code_neg y) ≡ true) × (is_total rs (code_div y (pos 2)) ≡ true) × (is_total rs (code_divides (pos 2) y) ≡ true)
    × (is_total rs (code_not ok) ≡ true) × (is_total rs (code_compare Lt x y) ≡ true) × (is_total rs (code_and ok ok) ≡ true)
    × (is_total rs (code_or ok ok) ≡ true) × (is_total rs (code_diff y y) ≡ true) × (is_total rs (code_subset y y) ≡ true)
    × (is_total rs (code_slice y x y) ≡ true) × (is_total rs (code_if ok x y) ≡ true) × (is_total rs (code_set_of (two x y)) ≡ true)
    × (is_total rs (code_tuple (two x y)) ≡ true) × (is_total rs (code_min (two x y)) ≡ true) × (is_total rs (code_max (two x y)) ≡ true)
    × (is_total rs (code_union (two x y)) ≡ true) × (is_total rs (code_inter (two x y)) ≡ true)
total-forms = (refl, refl, refl, refl, refl, refl, refl, refl, refl, refl, refl, refl, refl, refl, refl, refl, refl)

total-not_one : (is_total rs (code_neg bad) ≡ false) × (is_total rs (code_div bad (pos 2)) ≡ false) × (is_total rs (code_divides (pos 2) bad) ≡ false)
    × (is_total rs (code_not bad) ≡ false)
total-not_one = (refl, refl, refl, refl)

total-not_first : (is_total rs (code_compare Lt bad x) ≡ false) × (is_total rs (code_and bad ok) ≡ false) × (is_total rs (code_or bad ok) ≡ false)
    × (is_total rs (code_diff bad x) ≡ false) × (is_total rs (code_subset bad x) ≡ false) × (is_total rs (code_slice bad x x) ≡ false)
    × (is_total rs (code_if bad x x) ≡ false)
total-not_first = (refl, refl, refl, refl, refl, refl, refl)

total-not_second : (is_total rs (code_compare Lt x bad) ≡ false) × (is_total rs (code_and ok bad) ≡ false) × (is_total rs (code_or ok bad) ≡ false)
    × (is_total rs (code_diff x bad) ≡ false) × (is_total rs (code_subset x bad) ≡ false) × (is_total rs (code_slice x bad x) ≡ false)
    × (is_total rs (code_if ok bad x) ≡ false) × (is_total rs (code_slice x x bad) ≡ false) × (is_total rs (code_if ok x bad) ≡ false)
total-not_second = (refl, refl, refl, refl, refl, refl, refl, refl, refl)

total-not_listed : (is_total rs (code_set_of (two x bad)) ≡ false) × (is_total rs (code_tuple (two x bad)) ≡ false)
    × (is_total rs (code_min (two x bad)) ≡ false) × (is_total rs (code_max (two bad x)) ≡ false)
    × (is_total rs (code_union (two x bad)) ≡ false) × (is_total rs (code_inter (two bad x)) ≡ false)
total-not_listed = (refl, refl, refl, refl, refl, refl)

total-never : (is_total rs (code_card y) ≡ false) × (is_total rs (code_fresh y x) ≡ false) × (is_total rs (code_let 2 1 x x) ≡ false)
    × (is_total rs (code_solve 1 no_arms) ≡ false)
total-never = (refl, refl, refl, refl)
