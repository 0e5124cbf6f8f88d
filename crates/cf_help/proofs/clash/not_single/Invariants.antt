use Rattle.std.proofs.Common.{◌≡◌, drop}
use Rattle.cf_tree.specs.RawView.{raw_trees}
use Rattle.cf_help.specs.Faults.{not_single}
use Rattle.cf_help.specs.ScopeView.{around_of, bindings_seen}
use Rattle.cf_help.proofs.clash.not_single.Given as goal

abbrev pub invariant-loop-raw : goal.invariant-loop-raw
invariant-loop-raw l = not_single (around_of l.around) (bindings_seen l.variables) (raw_trees (drop l.raw-index l.raws)) ≡ not_single (around_of l.around)
    (bindings_seen l.variables) (raw_trees l.raws)
