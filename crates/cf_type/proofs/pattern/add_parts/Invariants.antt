use Rattle.std.proofs.Common.{◌≡◌, drop}
use Rattle.cf_tree.specs.RawView.{part_trees}
use Rattle.cf_program.specs.Walk.{with_parts}
use Rattle.cf_type.specs.FormView.{context_of, pattern_of}
use Rattle.cf_type.proofs.pattern.add_parts.Given as goal

abbrev pub invariant-loop-part : goal.invariant-loop-part
invariant-loop-part l =
    with_parts (context_of l.context) l.scope (pattern_of l.pattern) (part_trees (drop l.part-index l.parts))
    ≡ with_parts (context_of l.context) l.scope (pattern_of l.initial.pattern) (part_trees l.parts)
