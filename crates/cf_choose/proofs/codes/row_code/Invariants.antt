use Rattle.std.proofs.Common.{◌≡◌, map, take}
use Rattle.cf_tree.specs.CodeView.{code_tree}
use Rattle.cf_linear.specs.Arm.{entry_code}
use Rattle.cf_choose.proofs.codes.row_code.Given as goal

abbrev pub invariant-loop-i : goal.invariant-loop-i
invariant-loop-i l = map code_tree l.parts.items ≡ map (entry_code l.names) (take l.i l.row)
