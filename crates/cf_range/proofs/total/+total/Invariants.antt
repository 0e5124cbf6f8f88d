use Rattle.std.proofs.Common.{◌≡◌, drop}
use Rattle.cf_tree.specs.CodeView.{code_trees}
use Rattle.cf_range.specs.Total.{are_total}
use Rattle.cf_range.proofs.total.+total.Given as goal

abbrev pub invariant-are_total-loop-part : goal.invariant-are_total-loop-part
invariant-are_total-loop-part l = are_total l.ranges (code_trees (drop l.part-index l.parts)) ≡ are_total l.ranges (code_trees l.parts)
