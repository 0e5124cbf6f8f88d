use Rattle.std.proofs.Common.{◌≡◌, drop}
use Rattle.cf_tree.specs.RawTree.{raw_more}
use Rattle.cf_tree.specs.RawView.{raw_tree, raw_trees}
use Rattle.cf_help.specs.Faults.{not_links}
use Rattle.cf_help.specs.ScopeView.{around_of, bindings_seen}
use Rattle.cf_help.proofs.clash.not_links_from.Given as goal

abbrev pub invariant-loop-right : goal.invariant-loop-right
invariant-loop-right l = not_links l.place (around_of l.around) (bindings_seen l.variables) l.rest
    (raw_more (raw_tree l.left) (raw_trees (drop l.right-index l.more))) ≡ not_links l.place (around_of l.around) (bindings_seen l.variables) l.places
    (raw_more (raw_tree l.first) (raw_trees l.more))
