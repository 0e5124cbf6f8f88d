use Rattle.std.proofs.Common.{◌≡◌, map, take}
use Rattle.cf_tree.specs.DefView.{def_tree}
use Rattle.cf_program.specs.Lowered.{lowered_def}
use Rattle.cf_match.proofs.lowering.lower_defs.Given as goal

abbrev pub invariant-loop-def : goal.invariant-loop-def
invariant-loop-def l = map def_tree l.all.items ≡ map lowered_def (map def_tree (take l.def-index l.defs))
