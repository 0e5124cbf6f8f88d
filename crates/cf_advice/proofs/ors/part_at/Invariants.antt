use Rattle.std.proofs.Common.{◌≡◌, length}
use Rattle.cf_tree.specs.RelView.{rel_tree}
use Rattle.cf_advice.specs.Ors.{part_at}
use Rattle.cf_advice.proofs.ors.part_at.Given as goal

abbrev pub decreases-loop-side : goal.decreases-loop-side
decreases-loop-side l = length l.rest

abbrev pub invariant-loop-side : goal.invariant-loop-side
invariant-loop-side l = part_at l.rest (rel_tree l.part) ≡ part_at l.path (rel_tree l.rel)
