use Rattle.std.proofs.Common.{◌≡◌, map, take}
use Rattle.cf_tree.specs.DefView.{def_tree}
use Rattle.cf_match.specs.Matches.{match_tree, all_matches}
use Rattle.cf_match.proofs.collect.collect.Given as goal

abbrev pub invariant-loop-def : goal.invariant-loop-def
invariant-loop-def l = map match_tree l.all.items ≡ all_matches (map def_tree (take l.def-index l.defs))
