use Rattle.std.proofs.Common.{◌≡◌, drop}
use Rattle.cf_tree.specs.CodeView.{code_trees}
use Rattle.cf_range.specs.Settled.{weights}
use Rattle.cf_range.proofs.counts.+weight.Given as goal

abbrev pub invariant-weights-loop-part : goal.invariant-weights-loop-part
invariant-weights-loop-part l = weights (code_trees (drop l.part-index l.parts)) l.sum ≡ weights (code_trees l.parts) l.n
