use Rattle.std.proofs.Common.{◌≡◌, ◌++◌, map, drop}
use Rattle.cf_tree.specs.RawView.{part_trees}
use Rattle.cf_advice.specs.Spots.{variables}
use Rattle.cf_advice.proofs.spots.variables.Given as goal

abbrev pub invariant-loop-part : goal.invariant-loop-part
invariant-loop-part l =
    l.names.items ++ variables (map (λ n. n.now) l.constants) (part_trees (drop l.part-index l.parts))
    ≡ variables (map (λ n. n.now) l.constants) (part_trees l.parts)
