use Rattle.std.proofs.Common.{◌≡◌, length, map, drop}
use Rattle.cf_tree.specs.DefView.{def_tree}
use Rattle.cf_program.specs.Size.{measured, depth_in, depths, first_above}
use Rattle.cf_program.proofs.size.first_too_deep.Given as goal

abbrev pub invariant-loop-def : goal.invariant-loop-def
invariant-loop-def l =
    first_above 200 (length l.known.items) (measured depth_in l.known.items (map def_tree (drop l.def-index l.defs))) ≡ first_above 200 0
    (depths (map def_tree l.defs))
