use Rattle.std.proofs.Common.{◌≡◌, map, take}
use Rattle.cf_tree.specs.CodeView.{arm_tree, code_tree, item_tree}
use Rattle.cf_range.specs.Tidied.{tidied, item_tidied, arm_tidied}
use Rattle.cf_range.proofs.tidy.+tidy.Given as goal

abbrev pub invariant-tidy_all-loop-code : goal.invariant-tidy_all-loop-code
invariant-tidy_all-loop-code l = map code_tree l.all.items ≡ map (λ c. tidied (code_tree c)) (take l.code-index l.codes)

abbrev pub invariant-tidy_items-loop-item : goal.invariant-tidy_items-loop-item
invariant-tidy_items-loop-item l = map item_tree l.all.items ≡ map (λ i. item_tidied (item_tree i)) (take l.item-index l.items)

abbrev pub invariant-tidy_arms-loop-arm : goal.invariant-tidy_arms-loop-arm
invariant-tidy_arms-loop-arm l = map arm_tree l.all.items ≡ map (λ a. arm_tidied (arm_tree a)) (take l.arm-index l.arms)
