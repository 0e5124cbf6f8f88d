-- Code whose levels are greater, and whose levels fit 32 bits.
use Rattle.std.specs.Prelude.{ℕ, ◌+◌, ◌^◌, ◌<◌, ◌≤◌, ◌≡◌, List, ◌++◌, length}
use Rattle.cf_tree.specs.CodeTree.{CodeTree, code_lit, code_truth, code_var, code_set_of, code_tuple, code_sum, code_sub, code_mul, code_neg, code_div, code_mod, code_min, code_max, code_compare, code_divides, code_and, code_or, code_not, code_union, code_inter, code_diff, code_subset, code_card, code_slice, code_fresh, code_if, code_let, code_solve, CodeTrees, no_codes, code_more, ItemTree, let_item, need_item, ItemTrees, no_items, item_more, ArmTree, arm_of, ArmTrees, no_arms, arm_more}
use Rattle.cf_tree.specs.Meaning.{path}
use Rattle.cf_tree.specs.Values.{Value}

-- the same code behind so many more variables
abbrev mutual
  pub shifted : ℕ → CodeTree → CodeTree
  shifted by (code_lit k) = code_lit k
  shifted by (code_truth t) = code_truth t
  shifted by (code_var x) = code_var (by + x)
  shifted by (code_set_of cs) = code_set_of (all_shifted by cs)
  shifted by (code_tuple cs) = code_tuple (all_shifted by cs)
  shifted by (code_sum cs) = code_sum (all_shifted by cs)
  shifted by (code_sub a b) = code_sub (shifted by a) (shifted by b)
  shifted by (code_mul a b) = code_mul (shifted by a) (shifted by b)
  shifted by (code_neg a) = code_neg (shifted by a)
  shifted by (code_div a k) = code_div (shifted by a) k
  shifted by (code_mod a k) = code_mod (shifted by a) k
  shifted by (code_min cs) = code_min (all_shifted by cs)
  shifted by (code_max cs) = code_max (all_shifted by cs)
  shifted by (code_compare o a b) = code_compare o (shifted by a) (shifted by b)
  shifted by (code_divides k a) = code_divides k (shifted by a)
  shifted by (code_and a b) = code_and (shifted by a) (shifted by b)
  shifted by (code_or a b) = code_or (shifted by a) (shifted by b)
  shifted by (code_not a) = code_not (shifted by a)
  shifted by (code_union cs) = code_union (all_shifted by cs)
  shifted by (code_inter cs) = code_inter (all_shifted by cs)
  shifted by (code_diff a b) = code_diff (shifted by a) (shifted by b)
  shifted by (code_subset a b) = code_subset (shifted by a) (shifted by b)
  shifted by (code_card a) = code_card (shifted by a)
  shifted by (code_slice a b c) = code_slice (shifted by a) (shifted by b) (shifted by c)
  shifted by (code_fresh a b) = code_fresh (shifted by a) (shifted by b)
  shifted by (code_if a b c) = code_if (shifted by a) (shifted by b) (shifted by c)
  shifted by (code_let first n a b) = code_let (by + first) n (shifted by a) (shifted by b)
  shifted by (code_solve n arms) = code_solve n (arms_shifted by arms)

  pub all_shifted : ℕ → CodeTrees → CodeTrees
  all_shifted by no_codes = no_codes
  all_shifted by (code_more c cs) = code_more (shifted by c) (all_shifted by cs)

  pub item_shifted : ℕ → ItemTree → ItemTree
  item_shifted by (let_item c) = let_item (shifted by c)
  item_shifted by (need_item c) = need_item (shifted by c)

  pub items_shifted : ℕ → ItemTrees → ItemTrees
  items_shifted by no_items = no_items
  items_shifted by (item_more i is) = item_more (item_shifted by i) (items_shifted by is)

  pub arm_shifted : ℕ → ArmTree → ArmTree
  arm_shifted by (arm_of bounds is gs) = arm_of bounds (items_shifted by is) (all_shifted by gs)

  pub arms_shifted : ℕ → ArmTrees → ArmTrees
  arms_shifted by no_arms = no_arms
  arms_shifted by (arm_more a arms) = arm_more (arm_shifted by a) (arms_shifted by arms)

-- each variable has a level below 2 ^ 32, and each let takes such levels
abbrev mutual
  pub HasLevels : CodeTree → Type 0
  HasLevels (code_lit k) = Unit {0}
  HasLevels (code_truth t) = Unit {0}
  HasLevels (code_var x) = x < 2 ^ 32
  HasLevels (code_set_of cs) = HaveLevels cs
  HasLevels (code_tuple cs) = HaveLevels cs
  HasLevels (code_sum cs) = HaveLevels cs
  HasLevels (code_sub a b) = HasLevels a × HasLevels b
  HasLevels (code_mul a b) = HasLevels a × HasLevels b
  HasLevels (code_neg a) = HasLevels a
  HasLevels (code_div a k) = HasLevels a
  HasLevels (code_mod a k) = HasLevels a
  HasLevels (code_min cs) = HaveLevels cs
  HasLevels (code_max cs) = HaveLevels cs
  HasLevels (code_compare o a b) = HasLevels a × HasLevels b
  HasLevels (code_divides k a) = HasLevels a
  HasLevels (code_and a b) = HasLevels a × HasLevels b
  HasLevels (code_or a b) = HasLevels a × HasLevels b
  HasLevels (code_not a) = HasLevels a
  HasLevels (code_union cs) = HaveLevels cs
  HasLevels (code_inter cs) = HaveLevels cs
  HasLevels (code_diff a b) = HasLevels a × HasLevels b
  HasLevels (code_subset a b) = HasLevels a × HasLevels b
  HasLevels (code_card a) = HasLevels a
  HasLevels (code_slice a b c) = HasLevels a × HasLevels b × HasLevels c
  HasLevels (code_fresh a b) = HasLevels a × HasLevels b
  HasLevels (code_if a b c) = HasLevels a × HasLevels b × HasLevels c
  HasLevels (code_let first n a b) = (first + n ≤ 2 ^ 32) × HasLevels a × HasLevels b
  HasLevels (code_solve n arms) = ArmsHaveLevels arms

  pub HaveLevels : CodeTrees → Type 0
  HaveLevels no_codes = Unit {0}
  HaveLevels (code_more c cs) = HasLevels c × HaveLevels cs

  pub ItemHasLevels : ItemTree → Type 0
  ItemHasLevels (let_item c) = HasLevels c
  ItemHasLevels (need_item c) = HasLevels c

  pub ItemsHaveLevels : ItemTrees → Type 0
  ItemsHaveLevels no_items = Unit {0}
  ItemsHaveLevels (item_more i is) = ItemHasLevels i × ItemsHaveLevels is

  pub ArmHasLevels : ArmTree → Type 0
  ArmHasLevels (arm_of bounds is gs) = ItemsHaveLevels is × HaveLevels gs

  pub ArmsHaveLevels : ArmTrees → Type 0
  ArmsHaveLevels no_arms = Unit {0}
  ArmsHaveLevels (arm_more a arms) = ArmHasLevels a × ArmsHaveLevels arms

-- the second code is the first, and its levels fit
abbrev pub IsLevelled : CodeTree → CodeTree → Type 0
IsLevelled c d = (d ≡ c) × HasLevels d

abbrev pub AreLevelled : CodeTrees → CodeTrees → Type 0
AreLevelled cs ds = (ds ≡ cs) × HaveLevels ds

abbrev pub ItemIsLevelled : ItemTree → ItemTree → Type 0
ItemIsLevelled i j = (j ≡ i) × ItemHasLevels j

abbrev pub ItemsAreLevelled : ItemTrees → ItemTrees → Type 0
ItemsAreLevelled is js = (js ≡ is) × ItemsHaveLevels js

abbrev pub ArmIsLevelled : ArmTree → ArmTree → Type 0
ArmIsLevelled a b = (b ≡ a) × ArmHasLevels b

abbrev pub ArmsAreLevelled : ArmTrees → ArmTrees → Type 0
ArmsAreLevelled arms brms = (brms ≡ arms) × ArmsHaveLevels brms

-- behind more variables a code has the path that it has without them
abbrev pub ShiftedAreSame : Type 0
ShiftedAreSame = (front env : List Value) (c : CodeTree) → path (shifted (length front) c) (front ++ env) ≡ path c env
