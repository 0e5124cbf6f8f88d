use Rattle.std.proofs.Common.{◌≡◌, map, take, All}
use Rattle.cf_tree.specs.CodeView.{arm_tree, code_tree, item_tree}
use Rattle.cf_shift.specs.Shifted.{shifted, item_shifted, arm_shifted, HasLevels, ItemHasLevels, ArmHasLevels}
use Rattle.cf_shift.proofs.behind.+shift.Given as goal

abbrev pub invariant-shift_all-loop-code : goal.invariant-shift_all-loop-code
invariant-shift_all-loop-code l =
    (map code_tree l.all.items ≡ map (λ c. shifted l.by c) (map code_tree (take l.code-index l.codes))) × All (λ c. HasLevels (code_tree c)) l.all.items

abbrev pub invariant-shift_items-loop-item : goal.invariant-shift_items-loop-item
invariant-shift_items-loop-item l =
    (map item_tree l.all.items ≡ map (λ i. item_shifted l.by i) (map item_tree (take l.item-index l.items))) ×
    All (λ i. ItemHasLevels (item_tree i)) l.all.items

abbrev pub invariant-shift_arms-loop-arm : goal.invariant-shift_arms-loop-arm
invariant-shift_arms-loop-arm l =
    (map arm_tree l.all.items ≡ map (λ a. arm_shifted l.by a) (map arm_tree (take l.arm-index l.arms))) × All (λ a. ArmHasLevels (arm_tree a)) l.all.items
