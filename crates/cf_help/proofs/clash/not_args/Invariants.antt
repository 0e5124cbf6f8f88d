use Rattle.std.proofs.Common.{◌≡◌, drop}
use Rattle.cf_tree.specs.Params.{bases_of}
use Rattle.cf_tree.specs.RawView.{raw_trees}
use Rattle.cf_help.specs.Faults.{not_params}
use Rattle.cf_help.specs.ScopeView.{around_of, bindings_seen}
use Rattle.cf_help.proofs.clash.not_args.Given as goal

abbrev pub invariant-loop-raw : goal.invariant-loop-raw
invariant-loop-raw l = not_params (around_of l.around) (bindings_seen l.variables) (bases_of l.rest) (raw_trees (drop l.raw-index l.raws)) ≡ not_params
    (around_of l.around) (bindings_seen l.variables) (bases_of l.params) (raw_trees l.raws)
