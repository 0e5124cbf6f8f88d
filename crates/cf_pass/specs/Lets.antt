-- What is left of an arm without the lets that no later item and no give uses, where the last let is looked at first.
use Rattle.std.specs.Prelude.{ℕ, suc, ◌+◌, ◌-◌, nat_eq, nat_lt, Bool, false, ◌||◌, length, if◌then◌else◌}
use Rattle.cf_tree.specs.CodeTree.{CodeTree, code_lit, code_truth, code_var, code_set_of, code_tuple, code_sum, code_sub, code_mul, code_neg, code_div, code_mod, code_min, code_max, code_compare, code_divides, code_and, code_or, code_not, code_union, code_inter, code_diff, code_subset, code_card, code_slice, code_fresh, code_if, code_let, code_solve, CodeTrees, no_codes, code_more, ItemTree, let_item, need_item, ItemTrees, no_items, item_more, ArmTree, arm_of, ArmTrees, no_arms, arm_more}

-- whether a variable of level x stands in a code; no solve stands in an item or a give, so none is looked into
abbrev mutual
  pub uses : ℕ → CodeTree → Bool
  uses x (code_lit k) = false
  uses x (code_truth t) = false
  uses x (code_var y) = nat_eq x y
  uses x (code_set_of cs) = any_uses x cs
  uses x (code_tuple cs) = any_uses x cs
  uses x (code_sum cs) = any_uses x cs
  uses x (code_sub a b) = uses x a || uses x b
  uses x (code_mul a b) = uses x a || uses x b
  uses x (code_neg a) = uses x a
  uses x (code_div a k) = uses x a
  uses x (code_mod a k) = uses x a
  uses x (code_min cs) = any_uses x cs
  uses x (code_max cs) = any_uses x cs
  uses x (code_compare o a b) = uses x a || uses x b
  uses x (code_divides k a) = uses x a
  uses x (code_and a b) = uses x a || uses x b
  uses x (code_or a b) = uses x a || uses x b
  uses x (code_not a) = uses x a
  uses x (code_union cs) = any_uses x cs
  uses x (code_inter cs) = any_uses x cs
  uses x (code_diff a b) = uses x a || uses x b
  uses x (code_subset a b) = uses x a || uses x b
  uses x (code_card a) = uses x a
  uses x (code_slice a b c) = uses x a || uses x b || uses x c
  uses x (code_fresh a b) = uses x a || uses x b
  uses x (code_if a b c) = uses x a || uses x b || uses x c
  uses x (code_let first n a b) = uses x a || uses x b
  uses x (code_solve n arms) = false

  pub any_uses : ℕ → CodeTrees → Bool
  any_uses x no_codes = false
  any_uses x (code_more c cs) = uses x c || any_uses x cs

abbrev pub item_uses : ℕ → ItemTree → Bool
item_uses x (let_item c) = uses x c
item_uses x (need_item c) = uses x c

abbrev pub items_use : ℕ → ItemTrees → Bool
items_use x no_items = false
items_use x (item_more i is) = item_uses x i || items_use x is

-- the code where level x is level f x
abbrev mutual
  pub moved : (ℕ → ℕ) → CodeTree → CodeTree
  moved f (code_lit k) = code_lit k
  moved f (code_truth t) = code_truth t
  moved f (code_var y) = code_var (f y)
  moved f (code_set_of cs) = code_set_of (all_moved f cs)
  moved f (code_tuple cs) = code_tuple (all_moved f cs)
  moved f (code_sum cs) = code_sum (all_moved f cs)
  moved f (code_sub a b) = code_sub (moved f a) (moved f b)
  moved f (code_mul a b) = code_mul (moved f a) (moved f b)
  moved f (code_neg a) = code_neg (moved f a)
  moved f (code_div a k) = code_div (moved f a) k
  moved f (code_mod a k) = code_mod (moved f a) k
  moved f (code_min cs) = code_min (all_moved f cs)
  moved f (code_max cs) = code_max (all_moved f cs)
  moved f (code_compare o a b) = code_compare o (moved f a) (moved f b)
  moved f (code_divides k a) = code_divides k (moved f a)
  moved f (code_and a b) = code_and (moved f a) (moved f b)
  moved f (code_or a b) = code_or (moved f a) (moved f b)
  moved f (code_not a) = code_not (moved f a)
  moved f (code_union cs) = code_union (all_moved f cs)
  moved f (code_inter cs) = code_inter (all_moved f cs)
  moved f (code_diff a b) = code_diff (moved f a) (moved f b)
  moved f (code_subset a b) = code_subset (moved f a) (moved f b)
  moved f (code_card a) = code_card (moved f a)
  moved f (code_slice a b c) = code_slice (moved f a) (moved f b) (moved f c)
  moved f (code_fresh a b) = code_fresh (moved f a) (moved f b)
  moved f (code_if a b c) = code_if (moved f a) (moved f b) (moved f c)
  moved f (code_let first n a b) = code_let (f first) n (moved f a) (moved f b)
  moved f (code_solve n arms) = code_solve n arms

  pub all_moved : (ℕ → ℕ) → CodeTrees → CodeTrees
  all_moved f no_codes = no_codes
  all_moved f (code_more c cs) = code_more (moved f c) (all_moved f cs)

abbrev pub item_moved : (ℕ → ℕ) → ItemTree → ItemTree
item_moved f (let_item c) = let_item (moved f c)
item_moved f (need_item c) = need_item (moved f c)

abbrev pub items_moved : (ℕ → ℕ) → ItemTrees → ItemTrees
items_moved f no_items = no_items
items_moved f (item_more i is) = item_more (item_moved f i) (items_moved f is)

-- levels above x fall by 1
abbrev pub fallen : ℕ → ℕ → ℕ
fallen x y = if nat_lt x y then y - 1 else y

-- the rest of an arm, from some item on
pub record Rest : Type 0 where
  pub items : ItemTrees
  pub gives : CodeTrees

abbrev pub rest_uses : ℕ → Rest → Bool
rest_uses x r = items_use x r.items || any_uses x r.gives

abbrev pub rest_moved : (ℕ → ℕ) → Rest → Rest
rest_moved f r = record { items = items_moved f r.items; gives = all_moved f r.gives }

abbrev pub behind : ItemTree → Rest → Rest
behind i r = record { items = item_more i r.items; gives = r.gives }

-- the rest without a let of level x before it, if it does not use that, and else with it
abbrev pub let_dropped : ℕ → CodeTree → Rest → Rest
let_dropped x c r = if rest_uses x r then behind (let_item c) r else rest_moved (fallen x) r

-- the rest of an arm whose first let has level x
abbrev pub lets_dropped : ℕ → ItemTrees → CodeTrees → Rest
lets_dropped x no_items gs = record { items = no_items; gives = gs }
lets_dropped x (item_more (need_item c) is) gs = behind (need_item c) (lets_dropped x is gs)
lets_dropped x (item_more (let_item c) is) gs = let_dropped x c (lets_dropped (suc x) is gs)

-- an arm outside which n variables are bound
abbrev pub arm_dropped : ℕ → ArmTree → ArmTree
arm_dropped n (arm_of bounds is gs) =
    arm_of bounds (lets_dropped (n + length bounds) is gs).items (lets_dropped (n + length bounds) is gs).gives

abbrev pub arms_dropped : ℕ → ArmTrees → ArmTrees
arms_dropped n no_arms = no_arms
arms_dropped n (arm_more a arms) = arm_more (arm_dropped n a) (arms_dropped n arms)

-- a solve with its arms so, and any other form as it is
abbrev pub drop_lets_form : ℕ → CodeTree → CodeTree
drop_lets_form n (code_solve k arms) = code_solve k (arms_dropped n arms)
drop_lets_form n c = c

-- how many items there are
abbrev pub item_count : ItemTrees → ℕ
item_count no_items = 0
item_count (item_more i is) = suc (item_count is)

-- how many items are removed
abbrev pub arm_gone : ℕ → ArmTree → ℕ
arm_gone n (arm_of bounds is gs) = item_count is - item_count (lets_dropped (n + length bounds) is gs).items

abbrev pub arms_gone : ℕ → ArmTrees → ℕ
arms_gone n no_arms = 0
arms_gone n (arm_more a arms) = arm_gone n a + arms_gone n arms

abbrev pub drop_lets_units : ℕ → CodeTree → ℕ
drop_lets_units n (code_solve k arms) = arms_gone n arms
drop_lets_units n c = 0
