use Rattle.std.proofs.Common.{◌≡◌, map, drop}
use Rattle.cf_tree.specs.RawView.{part_trees}
use Rattle.cf_help.specs.Numbers.{has_variables}
use Rattle.cf_help.proofs.numbers.has_variables.Given as goal

abbrev pub invariant-loop-part : goal.invariant-loop-part
invariant-loop-part l =
    has_variables (map (λ n. n.now) l.constants) (part_trees (drop l.part-index l.parts)) ≡ has_variables (map (λ n. n.now) l.constants) (part_trees l.parts)
