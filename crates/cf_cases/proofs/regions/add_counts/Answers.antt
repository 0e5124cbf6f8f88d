use Rattle.std.proofs.Common.{◌≡◌, ◌^◌, [], pos, arith}
use Rattle.std.proofs.lemmas.Nat.{pow_pos}
use Rattle.cf_linear.specs.Layout.{set_count, region_column}
use Rattle.cf_linear.specs.Rows.{put}
use Rattle.cf_linear.specs.Views.{plain_layout}
use Rattle.cf_cases.proofs.AddLaws.{masks_next}
use Rattle.cf_cases.proofs.regions.add_counts.Goals as goal

pub loop-region-preserved : goal.loop-region-preserved
loop-region-preserved c =
    masks_next (λ m. put (region_column (plain_layout c.args.layout.now) m) (pos 1) []) c.args.rows.now.items c.loop-region.rows.items c.push.new.self.items
    c.loop-region.region (omega (arith, c.loop-region.auto.region)) c.loop-region.invariant
    (rw (c.in_ok-row.ensures, c.region_column.ensures) at c.in_ok-push.ensures.items)

pub returns : goal.returns
returns c =
    let some = pow_pos (set_count (plain_layout c.args.layout.now)) in
    let e : c.loop-region.region ≡ 2 ^ set_count (plain_layout c.args.layout.now) =
    omega (arith, c.regions-region-end.ensures, c.loop-region.auto.region, c.loop-region.auto.region-end, c.loop-region-test.false) in
    rw e at c.loop-region.invariant
