use Rattle.std.proofs.Common.{◌≡◌, map, take}
use Rattle.cf_tree.specs.CodeView.{arm_tree, code_tree, item_tree}
use Rattle.cf_tree.proofs.+copy_code.Given as goal

abbrev pub invariant-copy::code::copy_codes-loop-code : goal.invariant-copy::code::copy_codes-loop-code
invariant-copy::code::copy_codes-loop-code l = map code_tree l.all.items ≡ map code_tree (take l.code-index l.codes)

abbrev pub invariant-copy::code::copy_items-loop-item : goal.invariant-copy::code::copy_items-loop-item
invariant-copy::code::copy_items-loop-item l = map item_tree l.all.items ≡ map item_tree (take l.item-index l.items)

abbrev pub invariant-copy::code::copy_arms-loop-arm : goal.invariant-copy::code::copy_arms-loop-arm
invariant-copy::code::copy_arms-loop-arm l = map arm_tree l.all.items ≡ map arm_tree (take l.arm-index l.arms)
