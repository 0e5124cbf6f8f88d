use Rattle.std.proofs.Common.{◌≡◌, ◌++◌, map, drop}
use Rattle.cf_help.specs.Faults.{known}
use Rattle.cf_help.specs.HeldView.{holder_seen}
use Rattle.cf_help.specs.ScopeView.{bindings_seen}
use Rattle.cf_help.proofs.held.put_known.Given as goal

abbrev pub invariant-loop-variable : goal.invariant-loop-variable
invariant-loop-variable l =
    map holder_seen l.all.items ++ known (bindings_seen (drop l.variable-index l.variables))
    ≡ map holder_seen l.fn.all.items ++ known (bindings_seen l.variables)
