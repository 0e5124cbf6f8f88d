use Rattle.std.proofs.Common.{◌≡◌, drop}
use Rattle.cf_help.specs.ScopeView.{bindings_seen}
use Rattle.cf_help.specs.Spots.{base_from, base_of_name}
use Rattle.cf_help.proofs.scope.base_of_name.Given as goal

abbrev pub invariant-loop-variable : goal.invariant-loop-variable
invariant-loop-variable l =
    base_from l.base (bindings_seen (drop l.variable-index l.variables)) l.name ≡ base_of_name (bindings_seen l.variables) l.name
