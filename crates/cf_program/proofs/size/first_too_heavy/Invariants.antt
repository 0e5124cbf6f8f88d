use Rattle.std.proofs.Common.{◌≡◌, length, map, drop}
use Rattle.cf_tree.specs.DefView.{def_tree}
use Rattle.cf_program.specs.Size.{measured, weight_in, weights, first_above}
use Rattle.cf_program.proofs.size.first_too_heavy.Given as goal

abbrev pub invariant-loop-def : goal.invariant-loop-def
invariant-loop-def l =
    first_above 1000000 (length l.known.items) (measured weight_in l.known.items (map def_tree (drop l.def-index l.defs))) ≡ first_above 1000000 0
    (weights (map def_tree l.defs))
