use Rattle.std.proofs.Common.{◌≡◌, ◌+◌, ◌-◌}
use Rattle.std.specs.List.{range_with_len}
use Rattle.cf_tree.specs.RelView.{rel_tree}
use Rattle.cf_counts.specs.Counted.{are_counts}
use Rattle.cf_counts.proofs.sums.are_counts.Given as goal

abbrev pub invariant-loop-k : goal.invariant-loop-k
invariant-loop-k l = rel_tree l.all ≡ are_counts l.first (range_with_len (l.end - l.k + 1) (l.k - 1))
