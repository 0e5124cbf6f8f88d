use Rattle.std.proofs.Common.{◌≡◌, map, take}
use Rattle.cf_tree.specs.DefView.{def_tree}
use Rattle.cf_tree.specs.ChooseView.{choose_tree}
use Rattle.cf_build.specs.Solves.{chooses_of}
use Rattle.cf_build.proofs.chooses.collect.Given as goal

abbrev pub invariant-loop-def : goal.invariant-loop-def
invariant-loop-def l = map choose_tree l.chooses.items ≡ chooses_of (map def_tree (take l.def-index l.defs))
