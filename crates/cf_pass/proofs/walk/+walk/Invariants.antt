use Rattle.std.proofs.Common.{◌≡◌, ◌+◌, ◌*◌, ℕ, max, IsOk, IfOk}
use Rattle.cf_tree.proofs.code.Code.TheLaws.{the_size}
use Rattle.cf_tree.specs.CodeView.{code_trees, item_trees, arm_trees}
use Rattle.cf_pass.specs.Parts.{AllImprove, ItemsImprove, ArmsImprove}
use Rattle.cf_pass.specs.Walked.{Walk}
use Rattle.cf_pass.proofs.WalkLists.{lets_to, codes_to, items_to, arms_to, codes_units, items_units, arms_units}
use Rattle.cf_pass.proofs.walk.+walk.Given as goal

abbrev pub decreases-walk : goal.decreases-walk
decreases-walk g l = 8 * the_size l.code.now + 2

abbrev pub decreases-walk_parts : goal.decreases-walk_parts
decreases-walk_parts g l = 8 * the_size l.code.now + 1

abbrev pub decreases-walk_part : goal.decreases-walk_part
decreases-walk_part g l = 8 * the_size l.part.now.value + 3

abbrev pub decreases-walk_two : goal.decreases-walk_two
decreases-walk_two g l = 8 * max (the_size l.a.now.value) (the_size l.b.now.value) + 4

abbrev pub decreases-walk_three : goal.decreases-walk_three
decreases-walk_three g l = 8 * max (the_size l.a.now.value) (max (the_size l.b.now.value) (the_size l.c.now.value)) + 4

abbrev pub decreases-walk_behind : goal.decreases-walk_behind
decreases-walk_behind g l = 8 * the_size l.part.now.value + 4

abbrev pub decreases-walk_all : goal.decreases-walk_all
decreases-walk_all g l = 8 * goal.size-walk_all g l + 3

abbrev pub decreases-walk_gives : goal.decreases-walk_gives
decreases-walk_gives g l = 8 * goal.size-walk_gives g l + 4

abbrev pub decreases-walk_item : goal.decreases-walk_item
decreases-walk_item g l = 8 * goal.size-walk_item g l + 3

abbrev pub decreases-walk_items : goal.decreases-walk_items
decreases-walk_items g l = 8 * goal.size-walk_items g l + 4

abbrev pub decreases-walk_arm : goal.decreases-walk_arm
decreases-walk_arm g l = 8 * goal.size-walk_arm g l + 5

abbrev pub decreases-walk_arms : goal.decreases-walk_arms
decreases-walk_arms g l = 8 * goal.size-walk_arms g l + 6

abbrev pub invariant-walk_all-loop-code : goal.invariant-walk_all-loop-code
invariant-walk_all-loop-code g l =
    Walk (AllImprove l.outside (code_trees l.fn.codes.items) (code_trees l.code-items))
    (code_trees l.code-items ≡ codes_to g.R.Rule.made l.outside l.code-index (code_trees l.fn.codes.items))
    (codes_units g.R.Rule.made g.R.Rule.units l.outside l.code-index (code_trees l.fn.codes.items))
    (g.R.Rule.tally l.fn.rule) (g.R.Rule.tally l.rule) (IsOk l.fn.so_far) (IsOk l.so_far)
    × goal.unvisited-walk_all-loop-code g l

abbrev pub invariant-walk_items-loop-item : goal.invariant-walk_items-loop-item
invariant-walk_items-loop-item g l = goal.unvisited-walk_items-loop-item g l × ((n : ℕ) → IfOk l.fn.level (λ m. m ≡ n) →
    Walk (ItemsImprove n (item_trees l.fn.items.items) (item_trees l.item-items))
    (item_trees l.item-items ≡ items_to g.R.Rule.made n l.item-index (item_trees l.fn.items.items))
    (items_units g.R.Rule.made g.R.Rule.units n l.item-index (item_trees l.fn.items.items))
    (g.R.Rule.tally l.fn.rule) (g.R.Rule.tally l.rule) (IsOk l.fn.level) (IsOk l.level)
    × IfOk l.level (λ m. m ≡ n + lets_to l.item-index (item_trees l.fn.items.items)))

abbrev pub invariant-walk_arms-loop-arm : goal.invariant-walk_arms-loop-arm
invariant-walk_arms-loop-arm g l =
    Walk (ArmsImprove l.outside (arm_trees l.fn.arms.items) (arm_trees l.arm-items))
    (arm_trees l.arm-items ≡ arms_to g.R.Rule.made l.outside l.arm-index (arm_trees l.fn.arms.items))
    (arms_units g.R.Rule.made g.R.Rule.units l.outside l.arm-index (arm_trees l.fn.arms.items))
    (g.R.Rule.tally l.fn.rule) (g.R.Rule.tally l.rule) (IsOk l.fn.so_far) (IsOk l.so_far)
    × goal.unvisited-walk_arms-loop-arm g l
