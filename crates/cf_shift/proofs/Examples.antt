-- Worked examples: code behind more variables, levels that fit, and values that are small.
use Rattle.std.proofs.Common.{◌≡◌, ℕ, pos, negsuc, true, List, [], ◌∷◌, map, refl, arith}
use Rattle.cf_tree.specs.declared.base.Order.TheVariants.{Lt}
use Rattle.cf_tree.specs.CodeTree.{CodeTree, code_lit, code_truth, code_var, code_set_of, code_tuple, code_sum, code_sub, code_mul, code_neg, code_div, code_mod, code_min, code_max, code_compare, code_divides, code_and, code_or, code_not, code_union, code_inter, code_diff, code_subset, code_card, code_slice, code_fresh, code_if, code_let, code_solve, let_item, need_item, arm_of, codes_of, items_of, arms_of}
use Rattle.cf_tree.specs.Values.{number, truth}
use Rattle.cf_shift.specs.Meeting.{AreSmall}
use Rattle.cf_shift.specs.Shifted.{shifted, HasLevels}

abbrev v : ℕ → CodeTree
v x = code_var x

-- ---- code behind more variables
abbrev moved : CodeTree → CodeTree
moved d = shifted 10 d

abbrev three : List CodeTree
three = v 0 ∷ v 1 ∷ v 2 ∷ []

abbrev far : List CodeTree
far = v 10 ∷ v 11 ∷ v 12 ∷ []

moved_leaves : map moved (code_lit (pos 3) ∷ code_truth true ∷ v 4 ∷ []) ≡ code_lit (pos 3) ∷ code_truth true ∷ v 14 ∷ []
moved_leaves = refl

moved_lists : map moved (code_set_of (codes_of three) ∷ code_tuple (codes_of three) ∷ code_sum (codes_of three) ∷ code_min (codes_of three)
    ∷ code_max (codes_of three) ∷ code_union (codes_of three) ∷ code_inter (codes_of three) ∷ []) ≡
    code_set_of (codes_of far) ∷ code_tuple (codes_of far) ∷ code_sum (codes_of far) ∷ code_min (codes_of far) ∷ code_max (codes_of far)
    ∷ code_union (codes_of far) ∷ code_inter (codes_of far) ∷ []
moved_lists = refl

moved_parts : map moved (code_neg (v 0) ∷ code_not (v 0) ∷ code_card (v 0) ∷ code_div (v 0) (pos 3) ∷ code_mod (v 0) (pos 3)
    ∷ code_divides (pos 3) (v 0) ∷ []) ≡
    code_neg (v 10) ∷ code_not (v 10) ∷ code_card (v 10) ∷ code_div (v 10) (pos 3) ∷ code_mod (v 10) (pos 3) ∷ code_divides (pos 3) (v 10) ∷ []
moved_parts = refl

moved_pairs : map moved (code_sub (v 0) (v 1) ∷ code_mul (v 0) (v 1) ∷ code_compare Lt (v 0) (v 1) ∷ code_and (v 0) (v 1) ∷ code_or (v 0) (v 1)
    ∷ code_diff (v 0) (v 1) ∷ code_subset (v 0) (v 1) ∷ code_fresh (v 0) (v 1) ∷ []) ≡
    code_sub (v 10) (v 11) ∷ code_mul (v 10) (v 11) ∷ code_compare Lt (v 10) (v 11) ∷ code_and (v 10) (v 11) ∷ code_or (v 10) (v 11)
    ∷ code_diff (v 10) (v 11) ∷ code_subset (v 10) (v 11) ∷ code_fresh (v 10) (v 11) ∷ []
moved_pairs = refl

moved_threes : map moved (code_slice (v 0) (v 1) (v 2) ∷ code_if (v 0) (v 1) (v 2) ∷ code_let 3 2 (v 0) (v 4) ∷ []) ≡
    code_slice (v 10) (v 11) (v 12) ∷ code_if (v 10) (v 11) (v 12) ∷ code_let 13 2 (v 10) (v 14) ∷ []
moved_threes = refl

-- neither the number of the solve nor the bounds of its arms move
moved_arms : moved (code_solve 3 (arms_of (arm_of (2 ∷ []) (items_of (let_item (v 0) ∷ need_item (v 1) ∷ [])) (codes_of (v 2 ∷ []))
    ∷ arm_of [] (items_of []) (codes_of (v 0 ∷ v 1 ∷ [])) ∷ []))) ≡
    code_solve 3 (arms_of (arm_of (2 ∷ []) (items_of (let_item (v 10) ∷ need_item (v 11) ∷ [])) (codes_of (v 12 ∷ []))
    ∷ arm_of [] (items_of []) (codes_of (v 10 ∷ v 11 ∷ [])) ∷ []))
moved_arms = refl

-- ---- levels that fit 32 bits
last_level : HasLevels (v 4294967295)
last_level = omega arith

past_levels : HasLevels (v 4294967296) → ⊥
past_levels h = omega (arith, h)

last_bound : HasLevels (code_let 4294967290 6 (v 0) (v 1))
last_bound = (omega arith, omega arith, omega arith)

past_bound : HasLevels (code_let 4294967290 7 (v 0) (v 1)) → ⊥
past_bound h = omega (arith, h.0)

-- ---- values whose numbers are at most 5
small_values : AreSmall 5 (number (pos 5) ∷ number (negsuc 4) ∷ truth true ∷ [])
small_values = (omega arith, (omega arith, (omega arith, tt)))

great_value : AreSmall 5 (number (pos 5) ∷ number (negsuc 5) ∷ []) → ⊥
great_value h = omega (arith, h.1.0)
