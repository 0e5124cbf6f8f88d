use Rattle.std.proofs.Common.{◌≡◌, ◌-◌, ◌++◌, ◌^◌, ◌%◌, ◌==◌, length, pos, map}
use Rattle.std.specs.Prelude.{filter}
use Rattle.std.specs.List.{range_with_len}
use Rattle.cf_linear.specs.Layout.{region_column}
use Rattle.cf_linear.specs.Rows.{AreBelow}
use Rattle.cf_linear.specs.Views.{plain_layout}
use Rattle.cf_linear.specs.Cases.{input_row}
use Rattle.cf_cases.proofs.regions.input_row.Given as goal

abbrev pub invariant-loop-region : goal.invariant-loop-region
invariant-loop-region l = record {
  low : AreBelow (region_column (plain_layout l.layout) l.region) l.row;
  same : l.row ++ map (λ m. (region_column (plain_layout l.layout) m, pos 1))
      (filter (λ r. r % 2 ^ length l.layout.inputs.items == l.mask) (range_with_len l.region (l.end - l.region))) ≡ input_row (plain_layout l.layout) l.mask;
}
