use Rattle.std.proofs.Common.{◌≡◌, ◌-◌, drop, [], pos, None, IfSome, All}
use Rattle.cf_tree.specs.Meaning.{count_below}
use Rattle.cf_tree.specs.Sets.{AreWithin, set_of}
use Rattle.cf_num.specs.Limit.{IsWithin}
use Rattle.cf_tree.specs.CodeView.{code_trees, item_trees, arm_tree, arm_trees}
use Rattle.cf_eval.specs.Choice.{better_of, join_of, runs_joined}
use Rattle.cf_eval.specs.Reached.{all_reached, set_reached, sum_reached, best_reached, join_reached, items_reached, arms_reached, arm_reached, tries_reached, bounds_of}
use Rattle.cf_eval.specs.Seen.{plains, IsFit}
use Rattle.cf_eval.specs.RunAnswers.{Extends, capped}
use Rattle.cf_eval.proofs.run.+eval.Given as goal

abbrev pub invariant-eval_all-loop-i : goal.invariant-eval_all-loop-i
invariant-eval_all-loop-i l =
    (l.env.items ≡ l.fn.env.items)
    × (All IsFit l.all.items)
    × (all_reached (code_trees (drop l.i l.parts)) (plains l.env.items) (plains l.all.items) ≡ all_reached (code_trees l.parts) (plains l.env.items) [])

abbrev pub invariant-eval_set_of-loop-i : goal.invariant-eval_set_of-loop-i
invariant-eval_set_of-loop-i l =
    (l.env.items ≡ l.fn.env.items)
    × (AreWithin l.items.items)
    × (set_reached (code_trees (drop l.i l.parts)) (plains l.env.items) (set_of l.items.items) ≡ set_reached (code_trees l.parts) (plains l.env.items) [])

abbrev pub invariant-eval_sum-loop-i : goal.invariant-eval_sum-loop-i
invariant-eval_sum-loop-i l =
    (l.env.items ≡ l.fn.env.items)
    × (IsWithin l.total)
    × (sum_reached (code_trees (drop l.i l.parts)) (plains l.env.items) l.total ≡ sum_reached (code_trees l.parts) (plains l.env.items) (pos 0))

abbrev pub invariant-eval_best-loop-i : goal.invariant-eval_best-loop-i
invariant-eval_best-loop-i l =
    (l.env.items ≡ l.fn.env.items)
    × (IfSome l.best IsWithin)
    × (best_reached (better_of l.side) (code_trees (drop l.i l.parts)) (plains l.env.items) l.best ≡ best_reached (better_of l.side) (code_trees l.parts)
    (plains l.env.items) None)

abbrev pub invariant-eval_join-loop-i : goal.invariant-eval_join-loop-i
invariant-eval_join-loop-i l =
    (l.env.items ≡ l.fn.env.items)
    × (join_reached (join_of l.how) (code_trees (drop l.i l.parts)) (plains l.env.items) (runs_joined l.how l.runs.items) ≡ join_reached (join_of l.how) (code_trees l.parts)
    (plains l.env.items) None)

abbrev pub invariant-eval_arms-loop-i : goal.invariant-eval_arms-loop-i
invariant-eval_arms-loop-i l =
    (l.env.items ≡ l.fn.env.items)
    × (arms_reached (arm_trees (drop l.i l.arms)) (plains l.env.items) ≡ arms_reached (arm_trees l.arms) (plains l.env.items))

abbrev pub invariant-run_items-loop-i : goal.invariant-run_items-loop-i
invariant-run_items-loop-i l =
    Extends l.fn.env.items l.env.items
    × (items_reached (item_trees (drop l.i l.items)) (plains l.env.items) ≡ items_reached (item_trees l.items) (plains l.fn.env.items))

abbrev pub invariant-eval_arm-loop-index : goal.invariant-eval_arm-loop-index
invariant-eval_arm-loop-index l =
    (l.env.items ≡ l.fn.env.items)
    × (l.count ≡ capped (count_below (bounds_of (arm_tree l.arm))))
    × (tries_reached (arm_tree l.arm) (plains l.env.items) (count_below (bounds_of (arm_tree l.arm)) - l.index) l.index ≡ arm_reached (arm_tree l.arm)
    (plains l.fn.env.items))
