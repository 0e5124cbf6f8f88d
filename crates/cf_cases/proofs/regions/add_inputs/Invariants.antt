use Rattle.std.proofs.Common.{◌≡◌, ◌++◌, ◌-◌, map}
use Rattle.std.specs.List.{range_with_len}
use Rattle.cf_linear.specs.Views.{plain_layout}
use Rattle.cf_linear.specs.Cases.{input_row}
use Rattle.cf_cases.proofs.regions.add_inputs.Given as goal

abbrev pub invariant-loop-mask : goal.invariant-loop-mask
invariant-loop-mask l = l.rows.items ≡ l.fn.rows.items ++ map (input_row (plain_layout l.layout)) (range_with_len 1 (l.mask - 1))
