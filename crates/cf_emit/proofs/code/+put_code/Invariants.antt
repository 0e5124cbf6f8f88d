use Rattle.std.proofs.Common.{◌≡◌, ◌++◌, drop}
use Rattle.cf_tree.specs.CodeView.{arm_trees, code_trees, item_trees}
use Rattle.cf_emit.specs.Printed.{arms_text, items_text, more_codes}
use Rattle.cf_emit.proofs.code.+put_code.Given as goal

abbrev pub invariant-put_more-loop-i : goal.invariant-put_more-loop-i
invariant-put_more-loop-i l = l.out.items ++ more_codes l.separator (code_trees (drop l.i l.codes)) ≡ l.fn.out.items ++ more_codes l.separator
    (code_trees (drop 1 l.codes))

abbrev pub invariant-put_items-loop-item : goal.invariant-put_items-loop-item
invariant-put_items-loop-item l = l.out.items ++ items_text (item_trees (drop l.item-index l.items)) ≡ l.fn.out.items ++ items_text (item_trees l.items)

abbrev pub invariant-put_arms-loop-arm : goal.invariant-put_arms-loop-arm
invariant-put_arms-loop-arm l = l.out.items ++ arms_text (arm_trees (drop l.arm-index l.arms)) ≡ l.fn.out.items ++ arms_text (arm_trees l.arms)
