use Rattle.std.proofs.Common.{◌≡◌, map, take}
use Rattle.cf_tree.specs.CodeView.{code_tree}
use Rattle.cf_linear.specs.Arm.{vars}
use Rattle.cf_setwit.proofs.regions.variables.Given as goal

abbrev pub invariant-loop-level : goal.invariant-loop-level
invariant-loop-level l = map code_tree l.codes.items ≡ vars (take l.level-index l.levels)
