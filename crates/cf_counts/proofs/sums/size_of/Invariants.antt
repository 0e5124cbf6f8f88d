use Rattle.std.proofs.Common.{◌≡◌, ◌+◌, ◌-◌, map, filter}
use Rattle.std.specs.List.{range_with_len}
use Rattle.cf_tree.specs.RelView.{set_tree, term_tree}
use Rattle.cf_linear.specs.Layout.{covers}
use Rattle.cf_linear.specs.Views.{plain_layout}
use Rattle.cf_counts.specs.Counted.{count_level, sum_of}
use Rattle.cf_counts.proofs.sums.size_of.Given as goal

abbrev pub invariant-loop-k : goal.invariant-loop-k
invariant-loop-k l =
    term_tree l.sum ≡ sum_of (map (count_level l.first)
    (filter (covers (plain_layout l.layout) (set_tree l.set)) (range_with_len (l.end - l.k + 1) (l.k - 1))))
