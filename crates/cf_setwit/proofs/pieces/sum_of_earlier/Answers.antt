use Rattle.std.proofs.Common.{◌+◌, ◌*◌, length, arith, refl}
use Rattle.cf_linear.specs.Views.{plain_layout}
use Rattle.cf_setwit.proofs.MaskLemmas.{both_below}
use Rattle.cf_setwit.proofs.PieceLemmas.{earlier_more}
use Rattle.cf_setwit.proofs.pieces.sum_of_earlier.Goals as goal

pub count_of-count-requires-clause-mask : goal.count_of-count-requires-clause-mask
count_of-count-requires-clause-mask c =
    rw c.input_regions-step.ensures.value (both_below (length c.args.layout.now.inputs.items) (length c.args.layout.now.out_sets.items) c.args.mask
    c.loop-o.o c.requires.mask (omega (arith, c.loop-o-test.true, c.requires.count)))

pub loop-o-preserved : goal.loop-o-preserved
loop-o-preserved c =
    earlier_more (plain_layout c.args.layout.now) c.args.names.now c.args.mask c.loop-o.o (c.args.mask + c.input_regions-step.result * c.loop-o.o)
    c.loop-o.counts.items c.push_if.new.items.items c.count_of-count.result
    (rw c.input_regions-step.ensures.value refl) c.in_ok-push_if.ensures c.count_of-count.ensures c.loop-o.invariant
