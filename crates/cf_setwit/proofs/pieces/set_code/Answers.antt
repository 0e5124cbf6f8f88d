use Rattle.std.proofs.Common.{◌+◌, length}
use Rattle.cf_linear.specs.Layout.{bit, set_count}
use Rattle.cf_linear.specs.Views.{plain_layout}
use Rattle.cf_setwit.proofs.MaskLemmas.{masks_below}
use Rattle.cf_setwit.proofs.pieces.set_code.Goals as goal

pub pieces-requires-clause-masks : goal.pieces-requires-clause-masks
pieces-requires-clause-masks c = rw (c.deref.ensures.value, c.in_ok-masks.ensures)
    (masks_below (bit (length c.args.layout.now.inputs.items + c.args.j)) (set_count (plain_layout c.args.layout.now)))
