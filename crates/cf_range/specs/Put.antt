-- A code where a value stands in the place of a variable, which is bound no more.
use Rattle.std.specs.Prelude.{ℕ, ◌-◌, nat_eq, nat_lt, if◌then◌else◌}
use Rattle.cf_tree.specs.CodeTree.{CodeTree, code_lit, code_truth, code_var, code_set_of, code_tuple, code_sum, code_sub, code_mul, code_neg, code_div, code_mod, code_min, code_max, code_compare, code_divides, code_and, code_or, code_not, code_union, code_inter, code_diff, code_subset, code_card, code_slice, code_fresh, code_if, code_let, code_solve, CodeTrees, no_codes, code_more, ItemTree, let_item, need_item, ItemTrees, no_items, item_more, ArmTree, arm_of, ArmTrees, no_arms, arm_more}

-- levels above x fall by 1
abbrev pub fallen : ℕ → ℕ → ℕ
fallen x y = if nat_lt x y then y - 1 else y

-- the value at level x, and any other variable at its new level
abbrev pub var_put : ℕ → CodeTree → ℕ → CodeTree
var_put x v y = if nat_eq x y then v else code_var (fallen x y)

abbrev mutual
  pub put : ℕ → CodeTree → CodeTree → CodeTree
  put x v (code_lit k) = code_lit k
  put x v (code_truth t) = code_truth t
  put x v (code_var y) = var_put x v y
  put x v (code_set_of cs) = code_set_of (all_put x v cs)
  put x v (code_tuple cs) = code_tuple (all_put x v cs)
  put x v (code_sum cs) = code_sum (all_put x v cs)
  put x v (code_sub a b) = code_sub (put x v a) (put x v b)
  put x v (code_mul a b) = code_mul (put x v a) (put x v b)
  put x v (code_neg a) = code_neg (put x v a)
  put x v (code_div a k) = code_div (put x v a) k
  put x v (code_mod a k) = code_mod (put x v a) k
  put x v (code_min cs) = code_min (all_put x v cs)
  put x v (code_max cs) = code_max (all_put x v cs)
  put x v (code_compare o a b) = code_compare o (put x v a) (put x v b)
  put x v (code_divides k a) = code_divides k (put x v a)
  put x v (code_and a b) = code_and (put x v a) (put x v b)
  put x v (code_or a b) = code_or (put x v a) (put x v b)
  put x v (code_not a) = code_not (put x v a)
  put x v (code_union cs) = code_union (all_put x v cs)
  put x v (code_inter cs) = code_inter (all_put x v cs)
  put x v (code_diff a b) = code_diff (put x v a) (put x v b)
  put x v (code_subset a b) = code_subset (put x v a) (put x v b)
  put x v (code_card a) = code_card (put x v a)
  put x v (code_slice a b c) = code_slice (put x v a) (put x v b) (put x v c)
  put x v (code_fresh a b) = code_fresh (put x v a) (put x v b)
  put x v (code_if a b c) = code_if (put x v a) (put x v b) (put x v c)
  put x v (code_let first n a b) = code_let (fallen x first) n (put x v a) (put x v b)
  put x v (code_solve n arms) = code_solve n (arms_put x v arms)

  pub all_put : ℕ → CodeTree → CodeTrees → CodeTrees
  all_put x v no_codes = no_codes
  all_put x v (code_more c cs) = code_more (put x v c) (all_put x v cs)

  pub item_put : ℕ → CodeTree → ItemTree → ItemTree
  item_put x v (let_item c) = let_item (put x v c)
  item_put x v (need_item c) = need_item (put x v c)

  pub items_put : ℕ → CodeTree → ItemTrees → ItemTrees
  items_put x v no_items = no_items
  items_put x v (item_more i is) = item_more (item_put x v i) (items_put x v is)

  pub arm_put : ℕ → CodeTree → ArmTree → ArmTree
  arm_put x v (arm_of bounds is gs) = arm_of bounds (items_put x v is) (all_put x v gs)

  pub arms_put : ℕ → CodeTree → ArmTrees → ArmTrees
  arms_put x v no_arms = no_arms
  arms_put x v (arm_more a arms) = arm_more (arm_put x v a) (arms_put x v arms)
