use Rattle.std.proofs.Common.{◌%◌, ◌^◌, ◌+◌, ◌<◌, ◌==◌, length, arith}
use Rattle.cf_linear.specs.Layout.{region_column}
use Rattle.cf_linear.specs.Views.{plain_layout}
use Rattle.cf_cases.proofs.AddLaws.{region_turn}
use Rattle.cf_cases.proofs.regions.input_row.Goals as goal

pub loop-region-preserved : goal.loop-region-preserved
loop-region-preserved c =
    let l = plain_layout c.args.layout.now in
    let lt : region_column (plain_layout c.args.layout.now) c.loop-region.region < region_column (plain_layout c.args.layout.now)
    (c.loop-region.region + 1) = omega (arith, c.loop-region.auto.region) in
    let b = rw c.input_regions-choices.ensures.value at c.is_inside-inside.ensures in
    let new = rw c.region_column-column.ensures at c.in_ok-append_if.ensures in
    let r = region_turn (region_column (plain_layout c.args.layout.now)) (λ r. r % 2 ^ length c.args.layout.now.inputs.items == c.args.mask)
    c.loop-region.row _ _ c.loop-region.region _ _ lt c.loop-region-test.true b c.loop-region.invariant.low c.loop-region.invariant.same new in
    record { low = r.0; same = r.1 }
