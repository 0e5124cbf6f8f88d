use Rattle.std.proofs.Common.{◌≡◌, ◌++◌, drop}
use Rattle.cf_tree.specs.CodeView.{arm_trees, code_trees, item_trees}
use Rattle.cf_cert.specs.Marks.{arms_marks, items_marks, codes_marks}
use Rattle.cf_cert.proofs.marks.+put_code.Given as goal

abbrev pub invariant-put_codes-loop-code : goal.invariant-put_codes-loop-code
invariant-put_codes-loop-code l = l.out.items ++ codes_marks (code_trees (drop l.code-index l.codes)) ≡ l.fn.out.items ++ codes_marks (code_trees l.codes)

abbrev pub invariant-put_items-loop-item : goal.invariant-put_items-loop-item
invariant-put_items-loop-item l = l.out.items ++ items_marks (item_trees (drop l.item-index l.items)) ≡ l.fn.out.items ++ items_marks (item_trees l.items)

abbrev pub invariant-put_arms-loop-arm : goal.invariant-put_arms-loop-arm
invariant-put_arms-loop-arm l = l.out.items ++ arms_marks (arm_trees (drop l.arm-index l.arms)) ≡ l.fn.out.items ++ arms_marks (arm_trees l.arms)
