-- What is left of a solve without its arms that hold an item `need false`.
use Rattle.std.specs.Prelude.{ℕ, suc, ◌-◌, Bool, true, false, not, ◌&&◌, ◌||◌, cond}
use Rattle.cf_tree.specs.CodeTree.{CodeTree, code_truth, code_solve, ItemTree, need_item, ItemTrees, no_items, item_more, ArmTree, arm_of, ArmTrees, no_arms, arm_more}

-- the item is `need false`
abbrev pub never_holds : ItemTree → Bool
never_holds (need_item (code_truth t)) = not t
never_holds i = false

abbrev pub some_never : ItemTrees → Bool
some_never no_items = false
some_never (item_more i is) = never_holds i || some_never is

-- one of its items is `need false`
abbrev pub is_dead : ArmTree → Bool
is_dead (arm_of bounds is gs) = some_never is

abbrev pub all_dead : ArmTrees → Bool
all_dead no_arms = true
all_dead (arm_more a arms) = is_dead a && all_dead arms

abbrev pub live_arms : ArmTrees → ArmTrees
live_arms no_arms = no_arms
live_arms (arm_more a arms) = cond (is_dead a) (live_arms arms) (arm_more a (live_arms arms))

-- these arms, or this one where there are none
abbrev pub or_this : ArmTree → ArmTrees → ArmTrees
or_this a no_arms = arm_more a no_arms
or_this a (arm_more b arms) = arm_more b arms

-- the live arms, or else the first arm
abbrev pub arms_left : ArmTrees → ArmTrees
arms_left no_arms = no_arms
arms_left (arm_more a arms) = or_this a (live_arms (arm_more a arms))

abbrev pub without_arms : CodeTree → CodeTree
without_arms (code_solve n arms) = code_solve n (arms_left arms)
without_arms c = c

abbrev pub arm_count : ArmTrees → ℕ
arm_count no_arms = 0
arm_count (arm_more a arms) = suc (arm_count arms)

-- how many arms are removed
abbrev pub dead_at : CodeTree → ℕ
dead_at (code_solve n arms) = arm_count arms - arm_count (arms_left arms)
dead_at c = 0
