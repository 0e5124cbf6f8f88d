use Rattle.std.proofs.Common.{◌≡◌, map, take}
use Rattle.cf_tree.specs.CodeView.{arm_tree, code_tree, item_tree}
use Rattle.cf_range.specs.Put.{put, item_put, arm_put}
use Rattle.cf_range.proofs.put.+put.Given as goal

abbrev pub invariant-put_all-loop-code : goal.invariant-put_all-loop-code
invariant-put_all-loop-code l = map code_tree l.all.items ≡ map (λ c. put l.level (code_tree l.value) (code_tree c)) (take l.code-index l.codes)

abbrev pub invariant-put_items-loop-item : goal.invariant-put_items-loop-item
invariant-put_items-loop-item l = map item_tree l.all.items ≡ map (λ i. item_put l.level (code_tree l.value) (item_tree i)) (take l.item-index l.items)

abbrev pub invariant-put_arms-loop-arm : goal.invariant-put_arms-loop-arm
invariant-put_arms-loop-arm l = map arm_tree l.all.items ≡ map (λ a. arm_put l.level (code_tree l.value) (arm_tree a)) (take l.arm-index l.arms)
