use Rattle.std.proofs.Common.{◌≡◌, ◌-◌, ◌++◌, pos, map}
use Rattle.std.specs.Prelude.{filter}
use Rattle.std.specs.List.{range_with_len}
use Rattle.cf_tree.specs.RelView.{set_tree}
use Rattle.cf_linear.specs.Layout.{covers, region_column, region_row}
use Rattle.cf_linear.specs.Rows.{AreBelow}
use Rattle.cf_linear.specs.Views.{plain_layout}
use Rattle.cf_linear.proofs.columns.region_row.Given as goal

abbrev pub invariant-loop-mask : goal.invariant-loop-mask
invariant-loop-mask l = record {
  low : AreBelow (region_column (plain_layout l.layout) l.mask) l.out;
  same : l.out ++ map (λ m. (region_column (plain_layout l.layout) m, pos 1))
      (filter (covers (plain_layout l.layout) (set_tree l.set)) (range_with_len l.mask (l.end - l.mask)))
      ≡ region_row (plain_layout l.layout) (covers (plain_layout l.layout) (set_tree l.set));
}
