use Rattle.std.proofs.Common.{arith}
use Rattle.cf_linear.specs.Views.{plain_layout}
use Rattle.cf_linear.specs.Cases.{input_row}
use Rattle.cf_cases.proofs.AddLaws.{masks_next}
use Rattle.cf_cases.proofs.regions.add_inputs.Goals as goal

pub loop-mask-preserved : goal.loop-mask-preserved
loop-mask-preserved c =
    masks_next (input_row (plain_layout c.args.layout.now)) c.args.rows.now.items c.loop-mask.rows.items c.push.new.self.items c.loop-mask.mask
    (omega (arith, c.loop-mask.auto.mask)) c.loop-mask.invariant
    (rw c.in_ok-row.ensures at c.in_ok-push.ensures.items)
