-- Code behind some variables, and then behind others, is behind all of them.
use Rattle.std.proofs.Common.{◌≡◌, ℕ, ◌+◌, refl, ap, ◌∙◌, arith}
use Rattle.cf_tree.specs.CodeTree.{CodeTree, code_lit, code_truth, code_var, code_set_of, code_tuple, code_sum, code_sub, code_mul, code_neg, code_div, code_mod, code_min, code_max, code_compare, code_divides, code_and, code_or, code_not, code_union, code_inter, code_diff, code_subset, code_card, code_slice, code_fresh, code_if, code_let, code_solve, CodeTrees, no_codes, code_more, ItemTree, let_item, need_item, ItemTrees, no_items, item_more, ArmTree, arm_of, ArmTrees, no_arms, arm_more}
use Rattle.cf_shift.specs.Shifted.{shifted, all_shifted, item_shifted, items_shifted, arm_shifted, arms_shifted}

module _ (by more : ℕ) where
  both_more : (x : ℕ) → by + (more + x) ≡ by + more + x
  both_more x = omega arith

  mutual
    pub shifted_twice : (c : CodeTree) → shifted by (shifted more c) ≡ shifted (by + more) c
    shifted_twice (code_lit k) = refl
    shifted_twice (code_truth t) = refl
    shifted_twice (code_var x) = ap code_var (both_more x)
    shifted_twice (code_set_of cs) = ap code_set_of (all_twice cs)
    shifted_twice (code_tuple cs) = ap code_tuple (all_twice cs)
    shifted_twice (code_sum cs) = ap code_sum (all_twice cs)
    shifted_twice (code_min cs) = ap code_min (all_twice cs)
    shifted_twice (code_max cs) = ap code_max (all_twice cs)
    shifted_twice (code_union cs) = ap code_union (all_twice cs)
    shifted_twice (code_inter cs) = ap code_inter (all_twice cs)
    shifted_twice (code_neg a) = ap code_neg (shifted_twice a)
    shifted_twice (code_not a) = ap code_not (shifted_twice a)
    shifted_twice (code_card a) = ap code_card (shifted_twice a)
    shifted_twice (code_div a k) = ap (λ c. code_div c k) (shifted_twice a)
    shifted_twice (code_mod a k) = ap (λ c. code_mod c k) (shifted_twice a)
    shifted_twice (code_divides k a) = ap (λ c. code_divides k c) (shifted_twice a)
    shifted_twice (code_sub a b) = rw (shifted_twice a, shifted_twice b) refl
    shifted_twice (code_mul a b) = rw (shifted_twice a, shifted_twice b) refl
    shifted_twice (code_and a b) = rw (shifted_twice a, shifted_twice b) refl
    shifted_twice (code_or a b) = rw (shifted_twice a, shifted_twice b) refl
    shifted_twice (code_diff a b) = rw (shifted_twice a, shifted_twice b) refl
    shifted_twice (code_subset a b) = rw (shifted_twice a, shifted_twice b) refl
    shifted_twice (code_fresh a b) = rw (shifted_twice a, shifted_twice b) refl
    shifted_twice (code_compare o a b) = rw (shifted_twice a, shifted_twice b) refl
    shifted_twice (code_slice a b c) = rw (shifted_twice a, shifted_twice b, shifted_twice c) refl
    shifted_twice (code_if a b c) = rw (shifted_twice a, shifted_twice b, shifted_twice c) refl
    shifted_twice (code_let first n a b) =
        ap (λ k. code_let k n (shifted by (shifted more a)) (shifted by (shifted more b))) (both_more first)
        ∙ rw (shifted_twice a, shifted_twice b) refl
    shifted_twice (code_solve n arms) = ap (λ a. code_solve n a) (arms_twice arms)

    all_twice : (cs : CodeTrees) → all_shifted by (all_shifted more cs) ≡ all_shifted (by + more) cs
    all_twice no_codes = refl
    all_twice (code_more c cs) = rw (shifted_twice c, all_twice cs) refl

    item_twice : (i : ItemTree) → item_shifted by (item_shifted more i) ≡ item_shifted (by + more) i
    item_twice (let_item c) = ap let_item (shifted_twice c)
    item_twice (need_item c) = ap need_item (shifted_twice c)

    items_twice : (is : ItemTrees) → items_shifted by (items_shifted more is) ≡ items_shifted (by + more) is
    items_twice no_items = refl
    items_twice (item_more i is) = rw (item_twice i, items_twice is) refl

    arm_twice : (a : ArmTree) → arm_shifted by (arm_shifted more a) ≡ arm_shifted (by + more) a
    arm_twice (arm_of bounds is gs) = rw (items_twice is, all_twice gs) refl

    arms_twice : (arms : ArmTrees) → arms_shifted by (arms_shifted more arms) ≡ arms_shifted (by + more) arms
    arms_twice no_arms = refl
    arms_twice (arm_more a arms) = rw (arm_twice a, arms_twice arms) refl
