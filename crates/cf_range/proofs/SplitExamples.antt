-- What becomes of the code of a program that splits a set in two halves.
use Rattle.std.proofs.Common.{◌≡◌, ◌^◌, ◌-◌, ℕ, pos, negsuc, List, [], ◌∷◌, refl}
use Rattle.cf_tree.specs.declared.base.Order.TheVariants.{Ge}
use Rattle.cf_tree.specs.CodeTree.{CodeTree, code_lit, code_var, code_sum, code_mul, code_neg, code_div, code_min, code_max, code_compare, code_union, code_card, code_slice, code_fresh, code_solve, codes_of, ItemTree, let_item, need_item, items_of, arm_of, arms_of}
use Rattle.cf_range.specs.declared.range.Range.{Range}
use Rattle.cf_range.specs.Ranges.{between, whole}
use Rattle.cf_range.specs.Settled.{settled}
use Rattle.cf_range.specs.Tidied.{tidied}

abbrev once : List Range → CodeTree → CodeTree
once rs c = tidied (settled rs c)

abbrev thrice : List Range → CodeTree → CodeTree
thrice rs c = once rs (once rs (once rs c))

abbrev v : ℕ → CodeTree
v n = code_var n

abbrev zero : CodeTree
zero = code_lit (pos 0)

abbrev one : CodeTree
one = code_lit (pos 1)

abbrev sum : List CodeTree → CodeTree
sum cs = code_sum (codes_of cs)

abbrev union : List CodeTree → CodeTree
union cs = code_union (codes_of cs)

abbrev minus : CodeTree → CodeTree
minus c = code_mul (code_lit (negsuc 0)) c

abbrev not_negative : CodeTree → ItemTree
not_negative c = need_item (code_compare Ge c zero)

abbrev half : CodeTree → ItemTree
half c = let_item (code_div c (pos 2))

abbrev split : CodeTree
split = code_solve 1 (arms_of (arm_of []
    (items_of (let_item (v 0) ∷ let_item (code_card (v 1)) ∷ half (sum (one ∷ v 2 ∷ [])) ∷ half (sum (one ∷ minus (v 2) ∷ []))
    ∷ not_negative (sum (v 3 ∷ v 4 ∷ [])) ∷ not_negative (v 3) ∷ not_negative (sum (v 2 ∷ v 4 ∷ [])) ∷ not_negative (v 2)
    ∷ let_item (code_max (codes_of (minus (v 3) ∷ minus (v 2) ∷ []))) ∷ let_item (v 2) ∷ let_item (minus (v 5)) ∷ let_item (sum (v 6 ∷ v 5 ∷ []))
    ∷ let_item zero ∷ let_item zero ∷ let_item zero ∷ let_item zero ∷ let_item zero
    ∷ let_item (code_fresh (v 0) (sum (v 12 ∷ v 11 ∷ v 10 ∷ []))) ∷ []))
    (codes_of (union (code_slice (v 14) zero (v 12) ∷ code_slice (v 1) (v 13) (v 7) ∷ code_slice (v 14) (sum (v 12 ∷ v 11 ∷ [])) (v 10)
    ∷ code_slice (v 1) (sum (v 13 ∷ v 7 ∷ v 8 ∷ [])) (v 9) ∷ [])
    ∷ union (code_slice (v 14) (v 12) (v 11) ∷ code_slice (v 1) (sum (v 13 ∷ v 7 ∷ [])) (v 8) ∷ code_slice (v 14) (sum (v 12 ∷ v 11 ∷ [])) (v 10)
    ∷ code_slice (v 1) (sum (v 13 ∷ v 7 ∷ v 8 ∷ [])) (v 9) ∷ []) ∷ [])) ∷ []))

-- of a set of any size, the place behind both parts may be past the limit
split-any_size : thrice (whole ∷ []) split ≡ code_solve 1 (arms_of (arm_of []
    (items_of (let_item (code_card (v 0)) ∷ half (sum (one ∷ v 1 ∷ [])) ∷ half (sum (one ∷ code_neg (v 1) ∷ []))
    ∷ not_negative (sum (v 2 ∷ v 3 ∷ [])) ∷ not_negative (sum (v 1 ∷ v 3 ∷ [])) ∷ let_item (code_max (codes_of (code_neg (v 2) ∷ code_neg (v 1) ∷ [])))
    ∷ let_item (sum (v 1 ∷ v 4 ∷ [])) ∷ []))
    (codes_of (union (code_slice (v 0) zero (code_neg (v 4)) ∷ code_slice (v 0) (sum (code_neg (v 4) ∷ v 5 ∷ [])) zero ∷ [])
    ∷ union (code_slice (v 0) (code_min (codes_of (code_neg (v 4) ∷ []))) (v 5) ∷ code_slice (v 0) (sum (code_neg (v 4) ∷ v 5 ∷ [])) zero ∷ []) ∷ [])) ∷ []))
split-any_size = refl

split-in_memory : thrice (between (pos 0) (pos (2 ^ 63 - 1)) ∷ []) split ≡ code_solve 1 (arms_of (arm_of []
    (items_of (let_item (code_card (v 0)) ∷ half (sum (one ∷ v 1 ∷ [])) ∷ half (sum (one ∷ code_neg (v 1) ∷ []))
    ∷ not_negative (sum (v 2 ∷ v 3 ∷ [])) ∷ not_negative (sum (v 1 ∷ v 3 ∷ [])) ∷ let_item (code_max (codes_of (code_neg (v 2) ∷ code_neg (v 1) ∷ []))) ∷ []))
    (codes_of (code_slice (v 0) zero (code_neg (v 4)) ∷ code_slice (v 0) (code_min (codes_of (code_neg (v 4) ∷ []))) (sum (v 1 ∷ v 4 ∷ [])) ∷ [])) ∷ []))
split-in_memory = refl
