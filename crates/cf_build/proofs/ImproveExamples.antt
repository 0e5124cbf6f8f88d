-- Worked examples: how many nodes a code has, and when a code is no worse than another.
use Rattle.std.proofs.Common.{◌≡◌, ℕ, pos, List, [], ◌∷◌, map, refl, arith}
use Rattle.cf_tree.specs.declared.base.Order.TheVariants.{Le}
use Rattle.cf_tree.specs.CodeTree.{CodeTree, code_lit, code_var, code_set_of, code_tuple, code_sum, code_sub, code_mul, code_neg, code_div, code_mod, code_min, code_max, code_compare, code_divides, code_and, code_or, code_not, code_union, code_inter, code_diff, code_subset, code_card, code_slice, code_fresh, code_if, code_let, code_solve, let_item, need_item, arm_of, codes_of, items_of, arms_of, code_size}
use Rattle.cf_tree.specs.Meaning.{Path, gives_only, no_solution_at}
use Rattle.cf_pass.specs.Improves.{IsNoWorse}

-- ---- sizes
-- of one node and of two
abbrev a : CodeTree
a = code_var 0

abbrev b : CodeTree
b = code_neg (code_var 0)

abbrev three : List CodeTree
three = a ∷ b ∷ b ∷ []

sizes-of_lists : map code_size (code_set_of (codes_of three) ∷ code_tuple (codes_of three) ∷ code_sum (codes_of three) ∷ code_min (codes_of three)
    ∷ code_max (codes_of three) ∷ code_union (codes_of three) ∷ code_inter (codes_of three) ∷ []) ≡ 6 ∷ 6 ∷ 6 ∷ 6 ∷ 6 ∷ 6 ∷ 6 ∷ []
sizes-of_lists = refl

sizes-of_one : map code_size (code_lit (pos 9) ∷ a ∷ b ∷ code_not b ∷ code_card b ∷ code_div b (pos 9) ∷ code_mod b (pos 9) ∷ code_divides (pos 9) b ∷ []) ≡
    1 ∷ 1 ∷ 2 ∷ 3 ∷ 3 ∷ 3 ∷ 3 ∷ 3 ∷ []
sizes-of_one = refl

sizes-of_two : map code_size (code_sub a b ∷ code_mul a b ∷ code_compare Le a b ∷ code_and a b ∷ code_or a b ∷ code_diff a b ∷ code_subset a b ∷ code_fresh a b
    ∷ code_let 5 2 a b ∷ []) ≡ 4 ∷ 4 ∷ 4 ∷ 4 ∷ 4 ∷ 4 ∷ 4 ∷ 4 ∷ 4 ∷ []
sizes-of_two = refl

sizes-of_three : map code_size (code_slice a b b ∷ code_if a b b ∷ []) ≡ 6 ∷ 6 ∷ []
sizes-of_three = refl

-- an arm has the nodes of its items and of what it gives
size-of_arms : code_size (code_solve 7 (arms_of (arm_of (9 ∷ []) (items_of (let_item b ∷ need_item a ∷ [])) (codes_of (b ∷ b ∷ []))
    ∷ arm_of [] (items_of []) (codes_of (a ∷ [])) ∷ []))) ≡ 9
size-of_arms = refl

-- ---- paths
abbrev meets : ℕ → Path ℕ
meets peak = record { gives = (gives_only 3).gives; peak = peak }

same-peak : IsNoWorse (meets 7) (meets 7)
same-peak = record { gives = refl; peak = omega arith }

lower-peak : IsNoWorse (meets 7) (meets 6)
lower-peak = record { gives = refl; peak = omega arith }

higher-peak : IsNoWorse (meets 7) (meets 8) → ⊥
higher-peak w = omega (arith, w.peak)

other-choose : IsNoWorse (no_solution_at {A = ℕ} 1) (no_solution_at 2) → ⊥
other-choose w = let e = w.gives in absurd (cc)
