use Rattle.std.proofs.Common.{◌≡◌, ◌++◌, drop}
use Rattle.cf_help.specs.ScopeView.{bindings_seen}
use Rattle.cf_help.specs.Spots.{bindings}
use Rattle.cf_help.proofs.scope.put_params.Given as goal

abbrev pub invariant-loop-param : goal.invariant-loop-param
invariant-loop-param l =
    bindings_seen l.all.items ++ bindings (drop l.param-index l.params) ≡ bindings_seen l.fn.all.items ++ bindings l.params
