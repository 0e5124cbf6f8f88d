use Rattle.std.proofs.Common.{◌≡◌, ◌++◌, map, take, drop}
use Rattle.cf_tree.specs.CodeView.{arm_tree, code_tree, item_tree}
use Rattle.cf_range.specs.Settled.{settled, arm_settled}
use Rattle.cf_range.proofs.SettledLists.{settled_list}
use Rattle.cf_range.proofs.settle.+settle.Given as goal

abbrev pub invariant-settle_all-loop-code : goal.invariant-settle_all-loop-code
invariant-settle_all-loop-code l = map code_tree l.all.items ≡ map (λ c. settled l.ranges (code_tree c)) (take l.code-index l.codes)

abbrev pub invariant-settle_arms-loop-arm : goal.invariant-settle_arms-loop-arm
invariant-settle_arms-loop-arm l = map arm_tree l.all.items ≡ map (λ a. arm_settled l.ranges (arm_tree a)) (take l.arm-index l.arms)

abbrev pub invariant-settle_items-loop-item : goal.invariant-settle_items-loop-item
invariant-settle_items-loop-item l = map item_tree l.all.items ++ settled_list l.known.items (drop l.item-index l.items) ≡ settled_list l.ranges l.items
