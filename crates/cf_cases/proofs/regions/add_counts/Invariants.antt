use Rattle.std.proofs.Common.{◌≡◌, ◌++◌, ◌-◌, [], pos, map}
use Rattle.std.specs.List.{range_with_len}
use Rattle.cf_linear.specs.Layout.{region_column}
use Rattle.cf_linear.specs.Rows.{put}
use Rattle.cf_linear.specs.Views.{plain_layout}
use Rattle.cf_cases.proofs.regions.add_counts.Given as goal

abbrev pub invariant-loop-region : goal.invariant-loop-region
invariant-loop-region l = l.rows.items ≡ l.fn.rows.items ++ map (λ m. put (region_column (plain_layout l.layout) m) (pos 1) [])
    (range_with_len 1 (l.region - 1))
