-- Plain trees of target code, with lists in the place of vectors.
use Rattle.std.specs.Prelude.{ℕ, ℤ, ◌+◌, max, Bool, List, [], ◌∷◌}
use Rattle.cf_tree.specs.declared.base.Order.{Order}

mutual
  pub data CodeTree : Type 0 where
    code_lit : ℤ → CodeTree
    code_truth : Bool → CodeTree
    code_var : ℕ → CodeTree
    code_set_of : CodeTrees → CodeTree
    code_tuple : CodeTrees → CodeTree
    code_sum : CodeTrees → CodeTree
    code_sub : CodeTree → CodeTree → CodeTree
    code_mul : CodeTree → CodeTree → CodeTree
    code_neg : CodeTree → CodeTree
    code_div : CodeTree → ℤ → CodeTree
    code_mod : CodeTree → ℤ → CodeTree
    code_min : CodeTrees → CodeTree
    code_max : CodeTrees → CodeTree
    code_compare : Order → CodeTree → CodeTree → CodeTree
    code_divides : ℤ → CodeTree → CodeTree
    code_and : CodeTree → CodeTree → CodeTree
    code_or : CodeTree → CodeTree → CodeTree
    code_not : CodeTree → CodeTree
    code_union : CodeTrees → CodeTree
    code_inter : CodeTrees → CodeTree
    code_diff : CodeTree → CodeTree → CodeTree
    code_subset : CodeTree → CodeTree → CodeTree
    code_card : CodeTree → CodeTree
    code_slice : CodeTree → CodeTree → CodeTree → CodeTree
    code_fresh : CodeTree → CodeTree → CodeTree
    code_if : CodeTree → CodeTree → CodeTree → CodeTree
    code_let : ℕ → ℕ → CodeTree → CodeTree → CodeTree
    code_solve : ℕ → ArmTrees → CodeTree

  pub data CodeTrees : Type 0 where
    no_codes : CodeTrees
    code_more : CodeTree → CodeTrees → CodeTrees

  pub data ItemTree : Type 0 where
    let_item : CodeTree → ItemTree
    need_item : CodeTree → ItemTree

  pub data ItemTrees : Type 0 where
    no_items : ItemTrees
    item_more : ItemTree → ItemTrees → ItemTrees

  -- the bounds of the searches, the items, and what is given
  pub data ArmTree : Type 0 where
    arm_of : List ℕ → ItemTrees → CodeTrees → ArmTree

  pub data ArmTrees : Type 0 where
    no_arms : ArmTrees
    arm_more : ArmTree → ArmTrees → ArmTrees

abbrev pub codes_of : List CodeTree → CodeTrees
codes_of [] = no_codes
codes_of (c ∷ cs) = code_more c (codes_of cs)

abbrev pub items_of : List ItemTree → ItemTrees
items_of [] = no_items
items_of (i ∷ is) = item_more i (items_of is)

abbrev pub arms_of : List ArmTree → ArmTrees
arms_of [] = no_arms
arms_of (a ∷ arms) = arm_more a (arms_of arms)

-- how many codes a list has
abbrev pub count : CodeTrees → ℕ
count no_codes = 0
count (code_more c cs) = 1 + count cs

-- how many nodes a code has; an arm has those of its items and of what it gives
abbrev mutual
  pub code_size : CodeTree → ℕ
  code_size (code_lit k) = 1
  code_size (code_truth t) = 1
  code_size (code_var n) = 1
  code_size (code_set_of cs) = 1 + codes_size cs
  code_size (code_tuple cs) = 1 + codes_size cs
  code_size (code_sum cs) = 1 + codes_size cs
  code_size (code_sub a b) = 1 + code_size a + code_size b
  code_size (code_mul a b) = 1 + code_size a + code_size b
  code_size (code_neg a) = 1 + code_size a
  code_size (code_div a k) = 1 + code_size a
  code_size (code_mod a k) = 1 + code_size a
  code_size (code_min cs) = 1 + codes_size cs
  code_size (code_max cs) = 1 + codes_size cs
  code_size (code_compare o a b) = 1 + code_size a + code_size b
  code_size (code_divides k a) = 1 + code_size a
  code_size (code_and a b) = 1 + code_size a + code_size b
  code_size (code_or a b) = 1 + code_size a + code_size b
  code_size (code_not a) = 1 + code_size a
  code_size (code_union cs) = 1 + codes_size cs
  code_size (code_inter cs) = 1 + codes_size cs
  code_size (code_diff a b) = 1 + code_size a + code_size b
  code_size (code_subset a b) = 1 + code_size a + code_size b
  code_size (code_card a) = 1 + code_size a
  code_size (code_slice a b c) = 1 + code_size a + code_size b + code_size c
  code_size (code_fresh a b) = 1 + code_size a + code_size b
  code_size (code_if a b c) = 1 + code_size a + code_size b + code_size c
  code_size (code_let n n' a b) = 1 + code_size a + code_size b
  code_size (code_solve n arms) = 1 + arms_size arms

  pub codes_size : CodeTrees → ℕ
  codes_size no_codes = 0
  codes_size (code_more c cs) = code_size c + codes_size cs

  pub item_size : ItemTree → ℕ
  item_size (let_item c) = code_size c
  item_size (need_item c) = code_size c

  pub items_size : ItemTrees → ℕ
  items_size no_items = 0
  items_size (item_more i is) = item_size i + items_size is

  pub arm_size : ArmTree → ℕ
  arm_size (arm_of bounds is gives) = items_size is + codes_size gives

  pub arms_size : ArmTrees → ℕ
  arms_size no_arms = 0
  arms_size (arm_more a arms) = arm_size a + arms_size arms

-- 1 for a leaf, and 1 more than the deepest part for any other code; an arm counts as the deepest of its items and of what it gives
abbrev mutual
  pub code_depth : CodeTree → ℕ
  code_depth (code_lit k) = 1
  code_depth (code_truth t) = 1
  code_depth (code_var n) = 1
  code_depth (code_set_of cs) = 1 + codes_depth cs
  code_depth (code_tuple cs) = 1 + codes_depth cs
  code_depth (code_sum cs) = 1 + codes_depth cs
  code_depth (code_sub a b) = 1 + max (code_depth a) (code_depth b)
  code_depth (code_mul a b) = 1 + max (code_depth a) (code_depth b)
  code_depth (code_neg a) = 1 + code_depth a
  code_depth (code_div a k) = 1 + code_depth a
  code_depth (code_mod a k) = 1 + code_depth a
  code_depth (code_min cs) = 1 + codes_depth cs
  code_depth (code_max cs) = 1 + codes_depth cs
  code_depth (code_compare o a b) = 1 + max (code_depth a) (code_depth b)
  code_depth (code_divides k a) = 1 + code_depth a
  code_depth (code_and a b) = 1 + max (code_depth a) (code_depth b)
  code_depth (code_or a b) = 1 + max (code_depth a) (code_depth b)
  code_depth (code_not a) = 1 + code_depth a
  code_depth (code_union cs) = 1 + codes_depth cs
  code_depth (code_inter cs) = 1 + codes_depth cs
  code_depth (code_diff a b) = 1 + max (code_depth a) (code_depth b)
  code_depth (code_subset a b) = 1 + max (code_depth a) (code_depth b)
  code_depth (code_card a) = 1 + code_depth a
  code_depth (code_slice a b c) = 1 + max (code_depth a) (max (code_depth b) (code_depth c))
  code_depth (code_fresh a b) = 1 + max (code_depth a) (code_depth b)
  code_depth (code_if a b c) = 1 + max (code_depth a) (max (code_depth b) (code_depth c))
  code_depth (code_let n n' a b) = 1 + max (code_depth a) (code_depth b)
  code_depth (code_solve n arms) = 1 + arms_depth arms

  pub codes_depth : CodeTrees → ℕ
  codes_depth no_codes = 0
  codes_depth (code_more c cs) = max (code_depth c) (codes_depth cs)

  pub item_depth : ItemTree → ℕ
  item_depth (let_item c) = code_depth c
  item_depth (need_item c) = code_depth c

  pub items_depth : ItemTrees → ℕ
  items_depth no_items = 0
  items_depth (item_more i is) = max (item_depth i) (items_depth is)

  pub arm_depth : ArmTree → ℕ
  arm_depth (arm_of bounds is gives) = max (items_depth is) (codes_depth gives)

  pub arms_depth : ArmTrees → ℕ
  arms_depth no_arms = 0
  arms_depth (arm_more a arms) = max (arm_depth a) (arms_depth arms)
