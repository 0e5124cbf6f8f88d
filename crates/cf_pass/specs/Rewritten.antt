-- A code with each of its forms rewritten, parts first.
use Rattle.std.specs.Prelude.{ℕ, ◌+◌, length}
use Rattle.cf_tree.specs.CodeTree.{CodeTree, code_lit, code_truth, code_var, code_set_of, code_tuple, code_sum, code_sub, code_mul, code_neg, code_div, code_mod, code_min, code_max, code_compare, code_divides, code_and, code_or, code_not, code_union, code_inter, code_diff, code_subset, code_card, code_slice, code_fresh, code_if, code_let, code_solve, CodeTrees, no_codes, code_more, ItemTree, let_item, need_item, ItemTrees, no_items, item_more, ArmTree, arm_of, ArmTrees, no_arms, arm_more}
use Rattle.cf_pass.specs.Parts.{count_lets, behind_item}

-- `made n` rewrites a form outside which n variables are bound
module _ (made : ℕ → CodeTree → CodeTree) where
  abbrev mutual
    pub rewritten : ℕ → CodeTree → CodeTree
    rewritten n (code_lit k) = made n (code_lit k)
    rewritten n (code_truth t) = made n (code_truth t)
    rewritten n (code_var x) = made n (code_var x)
    rewritten n (code_set_of cs) = made n (code_set_of (all_rewritten n cs))
    rewritten n (code_tuple cs) = made n (code_tuple (all_rewritten n cs))
    rewritten n (code_sum cs) = made n (code_sum (all_rewritten n cs))
    rewritten n (code_sub a b) = made n (code_sub (rewritten n a) (rewritten n b))
    rewritten n (code_mul a b) = made n (code_mul (rewritten n a) (rewritten n b))
    rewritten n (code_neg a) = made n (code_neg (rewritten n a))
    rewritten n (code_div a k) = made n (code_div (rewritten n a) k)
    rewritten n (code_mod a k) = made n (code_mod (rewritten n a) k)
    rewritten n (code_min cs) = made n (code_min (all_rewritten n cs))
    rewritten n (code_max cs) = made n (code_max (all_rewritten n cs))
    rewritten n (code_compare o a b) = made n (code_compare o (rewritten n a) (rewritten n b))
    rewritten n (code_divides k a) = made n (code_divides k (rewritten n a))
    rewritten n (code_and a b) = made n (code_and (rewritten n a) (rewritten n b))
    rewritten n (code_or a b) = made n (code_or (rewritten n a) (rewritten n b))
    rewritten n (code_not a) = made n (code_not (rewritten n a))
    rewritten n (code_union cs) = made n (code_union (all_rewritten n cs))
    rewritten n (code_inter cs) = made n (code_inter (all_rewritten n cs))
    rewritten n (code_diff a b) = made n (code_diff (rewritten n a) (rewritten n b))
    rewritten n (code_subset a b) = made n (code_subset (rewritten n a) (rewritten n b))
    rewritten n (code_card a) = made n (code_card (rewritten n a))
    rewritten n (code_slice a b c) = made n (code_slice (rewritten n a) (rewritten n b) (rewritten n c))
    rewritten n (code_fresh a b) = made n (code_fresh (rewritten n a) (rewritten n b))
    rewritten n (code_if a b c) = made n (code_if (rewritten n a) (rewritten n b) (rewritten n c))
    rewritten n (code_let first bound a b) = made n (code_let first bound (rewritten n a) (rewritten (n + bound) b))
    rewritten n (code_solve k arms) = made n (code_solve k (arms_rewritten n arms))

    pub all_rewritten : ℕ → CodeTrees → CodeTrees
    all_rewritten n no_codes = no_codes
    all_rewritten n (code_more c cs) = code_more (rewritten n c) (all_rewritten n cs)

    pub item_rewritten : ℕ → ItemTree → ItemTree
    item_rewritten n (let_item c) = let_item (rewritten n c)
    item_rewritten n (need_item c) = need_item (rewritten n c)

    pub items_rewritten : ℕ → ItemTrees → ItemTrees
    items_rewritten n no_items = no_items
    items_rewritten n (item_more i is) = item_more (item_rewritten n i) (items_rewritten (behind_item i n) is)

    pub arm_rewritten : ℕ → ArmTree → ArmTree
    arm_rewritten n (arm_of bounds is gs) =
        arm_of bounds (items_rewritten (n + length bounds) is) (all_rewritten (n + length bounds + count_lets is) gs)

    pub arms_rewritten : ℕ → ArmTrees → ArmTrees
    arms_rewritten n no_arms = no_arms
    arms_rewritten n (arm_more a arms) = arm_more (arm_rewritten n a) (arms_rewritten n arms)

  -- how many units are replaced, where `units n` counts those of a form whose parts are rewritten
  module _ (units : ℕ → CodeTree → ℕ) where
    abbrev mutual
      pub units_of : ℕ → CodeTree → ℕ
      units_of n (code_lit k) = units n (code_lit k)
      units_of n (code_truth t) = units n (code_truth t)
      units_of n (code_var x) = units n (code_var x)
      units_of n (code_set_of cs) = units_of_all n cs + units n (code_set_of (all_rewritten n cs))
      units_of n (code_tuple cs) = units_of_all n cs + units n (code_tuple (all_rewritten n cs))
      units_of n (code_sum cs) = units_of_all n cs + units n (code_sum (all_rewritten n cs))
      units_of n (code_sub a b) = units_of n a + units_of n b + units n (code_sub (rewritten n a) (rewritten n b))
      units_of n (code_mul a b) = units_of n a + units_of n b + units n (code_mul (rewritten n a) (rewritten n b))
      units_of n (code_neg a) = units_of n a + units n (code_neg (rewritten n a))
      units_of n (code_div a k) = units_of n a + units n (code_div (rewritten n a) k)
      units_of n (code_mod a k) = units_of n a + units n (code_mod (rewritten n a) k)
      units_of n (code_min cs) = units_of_all n cs + units n (code_min (all_rewritten n cs))
      units_of n (code_max cs) = units_of_all n cs + units n (code_max (all_rewritten n cs))
      units_of n (code_compare o a b) = units_of n a + units_of n b + units n (code_compare o (rewritten n a) (rewritten n b))
      units_of n (code_divides k a) = units_of n a + units n (code_divides k (rewritten n a))
      units_of n (code_and a b) = units_of n a + units_of n b + units n (code_and (rewritten n a) (rewritten n b))
      units_of n (code_or a b) = units_of n a + units_of n b + units n (code_or (rewritten n a) (rewritten n b))
      units_of n (code_not a) = units_of n a + units n (code_not (rewritten n a))
      units_of n (code_union cs) = units_of_all n cs + units n (code_union (all_rewritten n cs))
      units_of n (code_inter cs) = units_of_all n cs + units n (code_inter (all_rewritten n cs))
      units_of n (code_diff a b) = units_of n a + units_of n b + units n (code_diff (rewritten n a) (rewritten n b))
      units_of n (code_subset a b) = units_of n a + units_of n b + units n (code_subset (rewritten n a) (rewritten n b))
      units_of n (code_card a) = units_of n a + units n (code_card (rewritten n a))
      units_of n (code_slice a b c) = units_of n a + units_of n b + units_of n c + units n (code_slice (rewritten n a) (rewritten n b) (rewritten n c))
      units_of n (code_fresh a b) = units_of n a + units_of n b + units n (code_fresh (rewritten n a) (rewritten n b))
      units_of n (code_if a b c) = units_of n a + units_of n b + units_of n c + units n (code_if (rewritten n a) (rewritten n b) (rewritten n c))
      units_of n (code_let first bound a b) = units_of n a + units_of (n + bound) b + units n (code_let first bound (rewritten n a) (rewritten (n + bound) b))
      units_of n (code_solve k arms) = units_of_arms n arms + units n (code_solve k (arms_rewritten n arms))

      pub units_of_all : ℕ → CodeTrees → ℕ
      units_of_all n no_codes = 0
      units_of_all n (code_more c cs) = units_of n c + units_of_all n cs

      pub units_of_item : ℕ → ItemTree → ℕ
      units_of_item n (let_item c) = units_of n c
      units_of_item n (need_item c) = units_of n c

      pub units_of_items : ℕ → ItemTrees → ℕ
      units_of_items n no_items = 0
      units_of_items n (item_more i is) = units_of_item n i + units_of_items (behind_item i n) is

      pub units_of_arm : ℕ → ArmTree → ℕ
      units_of_arm n (arm_of bounds is gs) = units_of_items (n + length bounds) is + units_of_all (n + length bounds + count_lets is) gs

      pub units_of_arms : ℕ → ArmTrees → ℕ
      units_of_arms n no_arms = 0
      units_of_arms n (arm_more a arms) = units_of_arm n a + units_of_arms n arms
