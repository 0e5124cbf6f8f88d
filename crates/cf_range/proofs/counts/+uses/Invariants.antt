use Rattle.std.proofs.Common.{◌≡◌, drop}
use Rattle.cf_tree.specs.CodeView.{code_trees, item_trees, arm_trees}
use Rattle.cf_range.specs.Settled.{all_use, gives_use, items_use, arms_use}
use Rattle.cf_range.proofs.counts.+uses.Given as goal

abbrev pub invariant-all_use-loop-part : goal.invariant-all_use-loop-part
invariant-all_use-loop-part l = all_use l.level (code_trees (drop l.part-index l.parts)) l.sum ≡ all_use l.level (code_trees l.parts) l.n

abbrev pub invariant-gives_use-loop-code : goal.invariant-gives_use-loop-code
invariant-gives_use-loop-code l = gives_use l.level (code_trees (drop l.code-index l.gives)) l.sum ≡ gives_use l.level (code_trees l.gives) l.n

abbrev pub invariant-items_use-loop-item : goal.invariant-items_use-loop-item
invariant-items_use-loop-item l = items_use l.level (item_trees (drop l.item-index l.items)) l.sum ≡ items_use l.level (item_trees l.items) l.n

abbrev pub invariant-arms_use-loop-arm : goal.invariant-arms_use-loop-arm
invariant-arms_use-loop-arm l = arms_use l.level (arm_trees (drop l.arm-index l.arms)) l.sum ≡ arms_use l.level (arm_trees l.arms) l.n
