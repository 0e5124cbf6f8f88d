-- Codes that answer alike, codes that do not, and what tidying makes of a code.
use Rattle.std.proofs.Common.{◌≡◌, ◌^◌, ◌-◌, ℕ, pos, negsuc, true, false, [], ◌∷◌, refl, arith}
use Rattle.std.proofs.lemmas.Int.{ints}
use Rattle.cf_tree.specs.CodeTree.{CodeTree, code_lit, code_truth, code_var, code_sum, code_mul, code_neg, code_div, code_min, code_let, code_solve, CodeTrees, no_codes, code_more, let_item, need_item, no_items, item_more, ArmTree, arm_of, no_arms, arm_more}
use Rattle.cf_tree.specs.Meaning.{Path, got}
use Rattle.cf_range.specs.Alike.{Alike, AnswersAlike}
use Rattle.cf_range.specs.Ranges.{between}
use Rattle.cf_range.specs.Tidied.{alone, negation, product, nonzero, sum_of, tidied, other_items, other_arms, entered, count_reached, reached}

abbrev at_peak : ℕ → ℕ → Path ℕ
at_peak n peak = record { gives = got n; peak = peak }

abbrev past : ℕ
past = 2 ^ 127

-- smaller numbers may be met in other ways
alike-other_peak : Alike (at_peak 5 7) (at_peak 5 1)
alike-other_peak = (λ l. (omega arith, refl), λ l. (omega arith, refl))

alike-not_other_value : Alike (at_peak 5 7) (at_peak 6 7) → ⊥
alike-not_other_value h = let e = (h.0 (omega arith)).1 in cc

-- what is past on both may give anything
alike-both_past : Alike (at_peak 5 past) (at_peak 6 past)
alike-both_past = (λ l. absurd (omega (arith, l)), λ l. absurd (omega (arith, l)))

alike-not_past_before : Alike (at_peak 5 past) (at_peak 5 7) → ⊥
alike-not_past_before h = let l = (h.1 (omega arith)).0 in omega (arith, l)

alike-not_past_behind : Alike (at_peak 5 7) (at_peak 5 past) → ⊥
alike-not_past_behind h = let l = (h.0 (omega arith)).0 in omega (arith, l)

-- only environments within the ranges count
answers-within : AnswersAlike (between (pos 1) (pos 0) ∷ []) (code_lit (pos 1)) (code_lit (pos 2))
answers-within [] lie = absurd lie
answers-within (v ∷ vs) lie = let low = lie.0.1 in let high = lie.0.2 in absurd (omega (arith, ints, low, high))

answers-not : AnswersAlike [] (code_lit (pos 1)) (code_lit (pos 2)) → ⊥
answers-not h = let e = ((h [] tt).0 (omega arith)).1 in cc

-- ---- the rows
abbrev x : CodeTree
x = code_var 0

abbrev minus : CodeTree → CodeTree
minus c = code_mul (code_lit (negsuc 0)) c

-- it prints as it does alone, and is met
alone-least : alone x ≡ code_min (code_more x no_codes)
alone-least = refl

negation-twice : negation (code_neg x) ≡ alone x
negation-twice = refl

negation-numeral : negation (code_lit (pos 3)) ≡ code_lit (negsuc 2)
negation-numeral = refl

negation-negative : negation (code_lit (negsuc 2)) ≡ code_lit (pos 3)
negation-negative = refl

-- a numeral past the limit is met as it is
negation-past : negation (code_lit (negsuc (past - 1))) ≡ code_neg (code_lit (negsuc (past - 1)))
negation-past = refl

negation-most : negation (code_lit (pos (past - 1))) ≡ code_lit (negsuc (past - 2))
negation-most = refl

negation-other : negation x ≡ code_neg x
negation-other = refl

product-minus_one : product (code_lit (negsuc 0)) x ≡ code_neg x
product-minus_one = refl

product-minus_one_negated : product (code_lit (negsuc 0)) (code_neg x) ≡ alone x
product-minus_one_negated = refl

product-negated : product (code_lit (pos 60)) (code_neg x) ≡ code_mul (code_lit (negsuc 59)) x
product-negated = refl

product-both_negative : product (code_lit (negsuc 1)) (code_neg x) ≡ code_mul (code_lit (pos 2)) x
product-both_negative = refl

-- a numeral past the limit is met as it is
product-past : product (code_lit (negsuc (past - 1))) (code_neg x) ≡ code_mul (code_lit (negsuc (past - 1))) (code_neg x)
product-past = refl

product-zero : product (code_lit (pos 60)) (code_lit (pos 0)) ≡ code_lit (pos 0)
product-zero = refl

product-past_zero : product (code_lit (negsuc (past - 1))) (code_lit (pos 0)) ≡ code_mul (code_lit (negsuc (past - 1))) (code_lit (pos 0))
product-past_zero = refl

product-two_numerals : product (code_lit (pos 60)) (code_lit (pos 2)) ≡ code_mul (code_lit (pos 60)) (code_lit (pos 2))
product-two_numerals = refl

product-code_zero : product x (code_lit (pos 0)) ≡ code_mul x (code_lit (pos 0))
product-code_zero = refl

product-other : product (code_lit (negsuc 1)) x ≡ code_mul (code_lit (negsuc 1)) x
product-other = refl

product-no_literal : product x (code_lit (negsuc 0)) ≡ code_mul x (code_lit (negsuc 0))
product-no_literal = refl

-- the parts of a sum that are 0 go, wherever they stand
abbrev parts : CodeTree → CodeTree → CodeTree → CodeTrees
parts a b c = code_more a (code_more b (code_more c no_codes))

nonzero-parts : nonzero (parts (code_lit (pos 0)) x (code_lit (pos 0))) ≡ code_more x no_codes
nonzero-parts = refl

nonzero-other : nonzero (parts (code_lit (pos 1)) (code_lit (negsuc 0)) x) ≡ parts (code_lit (pos 1)) (code_lit (negsuc 0)) x
nonzero-other = refl

sum_of-none : sum_of no_codes ≡ code_lit (pos 0)
sum_of-none = refl

sum_of-one : sum_of (code_more x no_codes) ≡ alone x
sum_of-one = refl

sum_of-more : sum_of (code_more x (code_more x no_codes)) ≡ code_sum (code_more x (code_more x no_codes))
sum_of-more = refl

-- numerals alone are one
sum_of-numerals : sum_of (parts (code_lit (pos 5)) (code_lit (negsuc 0)) (code_lit (pos 3))) ≡ code_lit (pos 7)
sum_of-numerals = refl

sum_of-mixed : sum_of (parts (code_lit (pos 5)) x (code_lit (pos 3))) ≡ code_sum (parts (code_lit (pos 5)) x (code_lit (pos 3)))
sum_of-mixed = refl

-- a sum past the limit is met, also on the way, and so is such a numeral
sum_of-past : sum_of (parts (code_lit (pos (past - 1))) (code_lit (pos 1)) (code_lit (negsuc 0)))
    ≡ code_sum (parts (code_lit (pos (past - 1))) (code_lit (pos 1)) (code_lit (negsuc 0)))
sum_of-past = refl

sum_of-past_numeral : sum_of (parts (code_lit (pos 5)) (code_lit (negsuc (past - 1))) (code_lit (pos 1)))
    ≡ code_sum (parts (code_lit (pos 5)) (code_lit (negsuc (past - 1))) (code_lit (pos 1)))
sum_of-past_numeral = refl

tidied-sum : tidied (code_sum (parts (code_neg (code_lit (pos 0))) (code_neg (minus x)) (code_lit (pos 2))))
    ≡ code_sum (code_more (alone x) (code_more (code_lit (pos 2)) no_codes))
tidied-sum = refl

-- at each form, parts first
tidied-inside : tidied (code_let 1 1 (code_div (minus x) (pos 4)) (code_sum (code_more (minus (minus x)) (code_more x no_codes))))
    ≡ code_let 1 1 (code_div (code_neg x) (pos 4)) (code_sum (code_more (alone x) (code_more x no_codes)))
tidied-inside = refl

other_items-true : other_items (item_more (need_item (code_truth true)) (item_more (let_item x) no_items)) ≡ item_more (let_item x) no_items
other_items-true = refl

other_items-false : other_items (item_more (need_item (code_truth false)) no_items) ≡ item_more (need_item (code_truth false)) no_items
other_items-false = refl

other_items-open : other_items (item_more (need_item x) no_items) ≡ item_more (need_item x) no_items
other_items-open = refl

-- a let of a truth value is no need
other_items-let : other_items (item_more (let_item (code_truth true)) no_items) ≡ item_more (let_item (code_truth true)) no_items
other_items-let = refl

tidied-arm : tidied (code_solve 1 (arm_more (arm_of (3 ∷ []) (item_more (let_item (minus x)) (item_more (need_item (minus x)) (item_more (need_item (code_truth true)) no_items))) (code_more (minus x) no_codes)) no_arms))
    ≡ code_solve 1 (arm_more (arm_of (3 ∷ []) (item_more (let_item (code_neg x)) (item_more (need_item (code_neg x)) no_items)) (code_more (code_neg x) no_codes)) no_arms)
tidied-arm = refl

-- ---- arms: one without bounds and needs always gives
abbrev lets : ArmTree
lets = arm_of [] (item_more (let_item x) no_items) (code_more x no_codes)

abbrev needs : ArmTree
needs = arm_of [] (item_more (let_item x) (item_more (need_item x) no_items)) (code_more x no_codes)

abbrev searches : ArmTree
searches = arm_of (3 ∷ []) no_items (code_more x no_codes)

reached-behind_lets : reached (arm_more needs (arm_more lets (arm_more searches no_arms))) ≡ arm_more needs (arm_more lets no_arms)
reached-behind_lets = refl

reached-behind_searches : reached (arm_more searches (arm_more needs no_arms)) ≡ arm_more searches (arm_more needs no_arms)
reached-behind_searches = refl

count_reached-second : count_reached (arm_more needs (arm_more lets (arm_more searches no_arms))) ≡ 2
count_reached-second = refl

tidied-reached : tidied (code_solve 1 (arm_more lets (arm_more searches no_arms))) ≡ code_solve 1 (arm_more lets no_arms)
tidied-reached = refl

-- one whose first need is false is left at once, and goes where there is another
abbrev never : ArmTree
never = arm_of [] (item_more (need_item (code_truth false)) (item_more (let_item x) no_items)) (code_more x no_codes)

abbrev later : ArmTree
later = arm_of [] (item_more (let_item x) (item_more (need_item (code_truth false)) no_items)) (code_more x no_codes)

abbrev never_searched : ArmTree
never_searched = arm_of (3 ∷ []) (item_more (need_item (code_truth false)) no_items) (code_more x no_codes)

abbrev true_first : ArmTree
true_first = arm_of [] (item_more (need_item (code_truth true)) no_items) (code_more x no_codes)

other_arms-never : other_arms (arm_more never (arm_more needs (arm_more never no_arms))) ≡ arm_more needs no_arms
other_arms-never = refl

other_arms-later : other_arms (arm_more later no_arms) ≡ arm_more later no_arms
other_arms-later = refl

other_arms-searched : other_arms (arm_more never_searched no_arms) ≡ arm_more never_searched no_arms
other_arms-searched = refl

other_arms-true : other_arms (arm_more true_first no_arms) ≡ arm_more true_first no_arms
other_arms-true = refl

other_arms-lets : other_arms (arm_more lets (arm_more needs no_arms)) ≡ arm_more lets (arm_more needs no_arms)
other_arms-lets = refl

entered-some : entered (arm_more needs (arm_more never no_arms)) ≡ arm_more needs no_arms
entered-some = refl

entered-all : entered (arm_more never (arm_more never no_arms)) ≡ arm_more never (arm_more never no_arms)
entered-all = refl

tidied-entered : tidied (code_solve 1 (arm_more never (arm_more lets (arm_more searches no_arms)))) ≡ code_solve 1 (arm_more lets no_arms)
tidied-entered = refl
