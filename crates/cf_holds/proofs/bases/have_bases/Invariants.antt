use Rattle.std.proofs.Common.{length}
use Rattle.cf_tree.specs.Values.{HaveBases}
use Rattle.cf_eval.specs.Seen.{plains}
use Rattle.cf_holds.proofs.bases.have_bases.Given as goal

abbrev pub invariant-loop-value : goal.invariant-loop-value
invariant-loop-value l = HaveBases l.left (plains l.right) → HaveBases l.fn.bases (plains l.fn.values)

abbrev pub decreases-loop-value : goal.decreases-loop-value
decreases-loop-value l = length l.right
