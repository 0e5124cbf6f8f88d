use Rattle.std.proofs.Common.{◌≡◌, drop, pos}
use Rattle.std.specs.Int.{int_min, int_max}
use Rattle.cf_tree.specs.CodeView.{code_trees}
use Rattle.cf_range.specs.Ranges.{between, plus_all, best_after, best_of}
use Rattle.cf_range.specs.CodeRanges.{ranges_of}
use Rattle.cf_range.proofs.codes.+ranges.Given as goal

abbrev pub invariant-range_of_sum-loop-part : goal.invariant-range_of_sum-loop-part
invariant-range_of_sum-loop-part l =
    plus_all l.sum (ranges_of l.ranges (code_trees (drop l.part-index l.parts))) ≡ plus_all (between (pos 0) (pos 0)) (ranges_of l.ranges (code_trees l.parts))

abbrev pub invariant-least_of-loop-part : goal.invariant-least_of-loop-part
invariant-least_of-loop-part l =
    best_after int_min l.best (ranges_of l.ranges (code_trees (drop l.part-index l.more))) ≡ best_of int_min (ranges_of l.ranges (code_trees l.parts))

abbrev pub invariant-greatest_of-loop-part : goal.invariant-greatest_of-loop-part
invariant-greatest_of-loop-part l =
    best_after int_max l.best (ranges_of l.ranges (code_trees (drop l.part-index l.more))) ≡ best_of int_max (ranges_of l.ranges (code_trees l.parts))
