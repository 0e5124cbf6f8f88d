use Rattle.std.proofs.Common.{◌≡◌, ◌++◌, drop}
use Rattle.cf_help.specs.ScopeView.{bindings_seen}
use Rattle.cf_help.specs.Spots.{named_bases}
use Rattle.cf_help.proofs.scope.with_names.Given as goal

abbrev pub invariant-loop-name : goal.invariant-loop-name
invariant-loop-name l =
    bindings_seen l.all.items ++ named_bases (drop l.name-index l.names) l.rest ≡ bindings_seen l.variables ++ named_bases l.names l.bases
