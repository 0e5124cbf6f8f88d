use Rattle.std.proofs.Common.{◌≡◌, ◌++◌, map, drop}
use Rattle.cf_help.specs.ScopeView.{defs_seen}
use Rattle.cf_help.proofs.looks.put_def_names.Given as goal

abbrev pub invariant-loop-def : goal.invariant-loop-def
invariant-loop-def l =
    map (λ n. n.now) l.all.items ++ map (λ d. d.name) (defs_seen (drop l.def-index l.defs))
    ≡ map (λ n. n.now) l.fn.all.items ++ map (λ d. d.name) (defs_seen l.defs)
