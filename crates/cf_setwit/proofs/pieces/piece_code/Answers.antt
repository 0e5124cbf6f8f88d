use Rattle.std.proofs.Common.{length}
use Rattle.cf_setwit.proofs.MaskLemmas.{outputs_within}
use Rattle.cf_setwit.proofs.pieces.piece_code.Goals as goal

pub sum_of_earlier-requires-clause-count : goal.sum_of_earlier-requires-clause-count
sum_of_earlier-requires-clause-count c = rw c.input_regions-2.ensures.value
    (outputs_within (length c.args.layout.now.inputs.items) (length c.args.layout.now.out_sets.items) c.args.mask c.requires.mask)
