use Rattle.std.proofs.Common.{◌≡◌, ◌+◌, length, arith}
use Rattle.cf_linear.specs.Layout.{bit}
use Rattle.cf_setwit.proofs.MaskLemmas.{mask_next}
use Rattle.cf_setwit.proofs.masks.masks_of.Goals as goal

pub loop-mask-preserved : goal.loop-mask-preserved
loop-mask-preserved c =
    let e : c.len.result ≡ length c.args.layout.now.inputs.items = omega (arith, c.len.ensures) in
    mask_next (bit (length c.args.layout.now.inputs.items + c.args.j)) c.loop-mask.mask c.has_bit.result c.loop-mask.masks.items c.push_if.new.items.items
    (omega (arith, c.loop-mask.auto.mask)) (rw e at c.has_bit.ensures) c.in_ok-push_if.ensures c.loop-mask.invariant
