-- What is left of a solve without its needs `true`.
use Rattle.std.specs.Prelude.{ℕ, suc, ◌+◌, Bool, false, cond}
use Rattle.cf_tree.specs.CodeTree.{CodeTree, code_truth, code_solve, ItemTree, need_item, ItemTrees, no_items, item_more, ArmTree, arm_of, ArmTrees, no_arms, arm_more}

-- the item is `need true`
abbrev pub always_holds : ItemTree → Bool
always_holds (need_item (code_truth t)) = t
always_holds i = false

abbrev pub other_items : ItemTrees → ItemTrees
other_items no_items = no_items
other_items (item_more i is) = cond (always_holds i) (other_items is) (item_more i (other_items is))

abbrev pub arm_without : ArmTree → ArmTree
arm_without (arm_of bounds is gs) = arm_of bounds (other_items is) gs

abbrev pub arms_without : ArmTrees → ArmTrees
arms_without no_arms = no_arms
arms_without (arm_more a arms) = arm_more (arm_without a) (arms_without arms)

abbrev pub without_needs : CodeTree → CodeTree
without_needs (code_solve n arms) = code_solve n (arms_without arms)
without_needs c = c

-- how many items `need true` there are
abbrev pub needs_in : ItemTrees → ℕ
needs_in no_items = 0
needs_in (item_more i is) = cond (always_holds i) (suc (needs_in is)) (needs_in is)

abbrev pub needs_in_arm : ArmTree → ℕ
needs_in_arm (arm_of bounds is gs) = needs_in is

abbrev pub needs_in_arms : ArmTrees → ℕ
needs_in_arms no_arms = 0
needs_in_arms (arm_more a arms) = needs_in_arm a + needs_in_arms arms

abbrev pub needs_at : CodeTree → ℕ
needs_at (code_solve n arms) = needs_in_arms arms
needs_at c = 0
