use Rattle.std.proofs.Common.{◌≡◌, ◌++◌, drop}
use Rattle.cf_tree.specs.RawView.{raw_trees}
use Rattle.cf_help.specs.ScopeView.{around_of, bindings_seen}
use Rattle.cf_help.specs.Spots.{all_bases_in}
use Rattle.cf_help.proofs.bases.+bases.Given as goal

abbrev pub invariant-all_bases_in-loop-raw : goal.invariant-all_bases_in-loop-raw
invariant-all_bases_in-loop-raw l =
    l.all.items ++ all_bases_in (around_of l.around) (bindings_seen l.variables) (raw_trees (drop l.raw-index l.raws))
    ≡ all_bases_in (around_of l.around) (bindings_seen l.variables) (raw_trees l.raws)
