-- Code behind no variables is the code.
use Rattle.std.proofs.Common.{◌≡◌, ℕ, ◌+◌, refl, ap, ◌∙◌, arith}
use Rattle.cf_tree.specs.CodeTree.{CodeTree, code_lit, code_truth, code_var, code_set_of, code_tuple, code_sum, code_sub, code_mul, code_neg, code_div, code_mod, code_min, code_max, code_compare, code_divides, code_and, code_or, code_not, code_union, code_inter, code_diff, code_subset, code_card, code_slice, code_fresh, code_if, code_let, code_solve, CodeTrees, no_codes, code_more, ItemTree, let_item, need_item, ItemTrees, no_items, item_more, ArmTree, arm_of, ArmTrees, no_arms, arm_more}
use Rattle.cf_shift.specs.Shifted.{shifted, all_shifted, item_shifted, items_shifted, arm_shifted, arms_shifted}

none_more : (n : ℕ) → 0 + n ≡ n
none_more n = omega arith

mutual
  pub shifted_none : (c : CodeTree) → shifted 0 c ≡ c
  shifted_none (code_lit k) = refl
  shifted_none (code_truth t) = refl
  shifted_none (code_var x) = ap code_var (none_more x)
  shifted_none (code_set_of cs) = ap code_set_of (all_none cs)
  shifted_none (code_tuple cs) = ap code_tuple (all_none cs)
  shifted_none (code_sum cs) = ap code_sum (all_none cs)
  shifted_none (code_min cs) = ap code_min (all_none cs)
  shifted_none (code_max cs) = ap code_max (all_none cs)
  shifted_none (code_union cs) = ap code_union (all_none cs)
  shifted_none (code_inter cs) = ap code_inter (all_none cs)
  shifted_none (code_neg a) = ap code_neg (shifted_none a)
  shifted_none (code_not a) = ap code_not (shifted_none a)
  shifted_none (code_card a) = ap code_card (shifted_none a)
  shifted_none (code_div a k) = ap (λ c. code_div c k) (shifted_none a)
  shifted_none (code_mod a k) = ap (λ c. code_mod c k) (shifted_none a)
  shifted_none (code_divides k a) = ap (λ c. code_divides k c) (shifted_none a)
  shifted_none (code_sub a b) = rw (shifted_none a, shifted_none b) refl
  shifted_none (code_mul a b) = rw (shifted_none a, shifted_none b) refl
  shifted_none (code_and a b) = rw (shifted_none a, shifted_none b) refl
  shifted_none (code_or a b) = rw (shifted_none a, shifted_none b) refl
  shifted_none (code_diff a b) = rw (shifted_none a, shifted_none b) refl
  shifted_none (code_subset a b) = rw (shifted_none a, shifted_none b) refl
  shifted_none (code_fresh a b) = rw (shifted_none a, shifted_none b) refl
  shifted_none (code_compare o a b) = rw (shifted_none a, shifted_none b) refl
  shifted_none (code_slice a b c) = rw (shifted_none a, shifted_none b, shifted_none c) refl
  shifted_none (code_if a b c) = rw (shifted_none a, shifted_none b, shifted_none c) refl
  shifted_none (code_let first n a b) =
      ap (λ k. code_let k n (shifted 0 a) (shifted 0 b)) (none_more first) ∙ rw (shifted_none a, shifted_none b) refl
  shifted_none (code_solve n arms) = ap (λ a. code_solve n a) (arms_none arms)

  all_none : (cs : CodeTrees) → all_shifted 0 cs ≡ cs
  all_none no_codes = refl
  all_none (code_more c cs) = rw (shifted_none c, all_none cs) refl

  item_none : (i : ItemTree) → item_shifted 0 i ≡ i
  item_none (let_item c) = ap let_item (shifted_none c)
  item_none (need_item c) = ap need_item (shifted_none c)

  items_none : (is : ItemTrees) → items_shifted 0 is ≡ is
  items_none no_items = refl
  items_none (item_more i is) = rw (item_none i, items_none is) refl

  arm_none : (a : ArmTree) → arm_shifted 0 a ≡ a
  arm_none (arm_of bounds is gs) = rw (items_none is, all_none gs) refl

  arms_none : (arms : ArmTrees) → arms_shifted 0 arms ≡ arms
  arms_none no_arms = refl
  arms_none (arm_more a arms) = rw (arm_none a, arms_none arms) refl
