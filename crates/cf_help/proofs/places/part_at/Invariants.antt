use Rattle.std.proofs.Common.{◌≡◌, drop}
use Rattle.cf_tree.specs.RawView.{part_trees}
use Rattle.cf_help.specs.Faults.{part_at}
use Rattle.cf_help.proofs.places.part_at.Given as goal

abbrev pub invariant-loop-part : goal.invariant-loop-part
invariant-loop-part l = part_at l.place (part_trees (drop l.part-index l.parts)) ≡ part_at l.place (part_trees l.parts)
