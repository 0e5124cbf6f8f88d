use Rattle.std.proofs.Common.{◌≡◌, ◌++◌, map, drop}
use Rattle.cf_help.specs.ScopeView.{bindings_seen}
use Rattle.cf_help.proofs.looks.put_names.Given as goal

abbrev pub invariant-loop-variable : goal.invariant-loop-variable
invariant-loop-variable l =
    map (λ n. n.now) l.all.items ++ map (λ v. v.name) (bindings_seen (drop l.variable-index l.variables))
    ≡ map (λ n. n.now) l.fn.all.items ++ map (λ v. v.name) (bindings_seen l.variables)
