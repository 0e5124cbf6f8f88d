use Rattle.std.proofs.Common.{◌≡◌, ◌++◌, map, drop}
use Rattle.cf_tree.specs.DefView.{def_tree}
use Rattle.cf_advice.specs.Unused.{all_unused}
use Rattle.cf_advice.proofs.unused.unused_params.Given as goal

abbrev pub invariant-loop-def : goal.invariant-loop-def
invariant-loop-def l =
    map (λ p. p.now) l.out.items ++ all_unused (map def_tree (drop l.def-index l.defs)) ≡ all_unused (map def_tree l.defs)
