use Rattle.std.proofs.Common.{◌≡◌, ◌++◌, map, drop}
use Rattle.cf_tree.specs.RawView.{part_trees}
use Rattle.cf_help.specs.ScopeView.{bindings_seen}
use Rattle.cf_help.specs.Spots.{pattern_variables}
use Rattle.cf_help.proofs.scope.with_pattern.Given as goal

abbrev pub invariant-loop-part : goal.invariant-loop-part
invariant-loop-part l =
    bindings_seen l.all.items ++ pattern_variables (map (λ n. n.now) l.constants) (part_trees (drop l.part-index l.parts))
    ≡ bindings_seen l.variables ++ pattern_variables (map (λ n. n.now) l.constants) (part_trees l.parts)
