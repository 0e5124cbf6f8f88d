use Rattle.std.proofs.Common.{◌≡◌, pos, length}
use Rattle.cf_tree.specs.CodeView.{code_trees}
use Rattle.cf_range.specs.Ranges.{between, plus_all_passes}
use Rattle.cf_range.specs.CodeRanges.{ranges_of}
use Rattle.cf_range.proofs.codes.sum_may_pass.Given as goal

abbrev pub invariant-loop-part : goal.invariant-loop-part
invariant-loop-part l =
    plus_all_passes l.sum (ranges_of l.ranges (code_trees l.rest)) ≡ plus_all_passes (between (pos 0) (pos 0)) (ranges_of l.ranges (code_trees l.parts))

abbrev pub decreases-loop-part : goal.decreases-loop-part
decreases-loop-part l = length l.rest
