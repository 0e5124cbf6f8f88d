use Rattle.std.proofs.Common.{◌≡◌, drop}
use Rattle.cf_tree.specs.RawView.{raw_trees}
use Rattle.cf_help.specs.Faults.{none_is_not}
use Rattle.cf_help.specs.ScopeView.{around_of, bindings_seen}
use Rattle.cf_help.proofs.clash.none_is_not.Given as goal

abbrev pub invariant-loop-raw : goal.invariant-loop-raw
invariant-loop-raw l = none_is_not l.base (around_of l.around) (bindings_seen l.variables) (raw_trees (drop l.raw-index l.raws)) ≡ none_is_not l.base
    (around_of l.around) (bindings_seen l.variables) (raw_trees l.raws)
