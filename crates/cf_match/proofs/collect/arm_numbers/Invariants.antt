use Rattle.std.proofs.Common.{◌≡◌, map, take}
use Rattle.cf_tree.specs.ExprView.{match_arm_tree}
use Rattle.cf_match.specs.Matches.{number_of_arm}
use Rattle.cf_match.proofs.collect.arm_numbers.Given as goal

abbrev pub invariant-loop-arm : goal.invariant-loop-arm
invariant-loop-arm l = l.all.items ≡ map number_of_arm (map match_arm_tree (take l.arm-index l.arms))
