use Rattle.std.proofs.Common.{◌≡◌, drop, []}
use Rattle.cf_tree.specs.CodeView.{code_trees, item_trees, arm_trees}
use Rattle.cf_typing.specs.Bases.{all_have, parts_of, parts_have, items_scope, arms_give}
use Rattle.cf_typing.specs.TypingAnswers.{Extends}
use Rattle.cf_typing.proofs.bases.+infer.Given as goal

abbrev pub invariant-check_all-loop-i : goal.invariant-check_all-loop-i
invariant-check_all-loop-i l =
    (l.scope.items ≡ l.fn.scope.items)
    × (all_have (code_trees (drop l.i l.codes)) l.scope.items l.base ≡ all_have (code_trees l.codes) l.scope.items l.base)

abbrev pub invariant-infer_parts-loop-i : goal.invariant-infer_parts-loop-i
invariant-infer_parts-loop-i l =
    (l.scope.items ≡ l.fn.scope.items)
    × (parts_of (code_trees (drop l.i l.parts)) l.scope.items l.bases.items ≡ parts_of (code_trees l.parts) l.scope.items [])

abbrev pub invariant-check_parts-loop-i : goal.invariant-check_parts-loop-i
invariant-check_parts-loop-i l =
    (l.scope.items ≡ l.fn.scope.items)
    × (parts_have (code_trees (drop l.i l.parts)) l.scope.items (drop l.i l.asked) ≡ parts_have (code_trees l.parts) l.scope.items l.asked)

abbrev pub invariant-check_others-loop-i : goal.invariant-check_others-loop-i
invariant-check_others-loop-i l =
    (l.scope.items ≡ l.fn.scope.items)
    × (arms_give (arm_trees (drop l.i l.arms)) l.scope.items l.bases ≡ arms_give (arm_trees (drop 1 l.arms)) l.scope.items l.bases)

abbrev pub invariant-check_items-loop-i : goal.invariant-check_items-loop-i
invariant-check_items-loop-i l =
    Extends l.fn.scope.items l.scope.items
    × (items_scope (item_trees (drop l.i l.items)) l.scope.items ≡ items_scope (item_trees l.items) l.fn.scope.items)
