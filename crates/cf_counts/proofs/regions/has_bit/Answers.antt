use Rattle.cf_linear.proofs.ColumnLemmas.{bit_by_and}
use Rattle.cf_counts.proofs.regions.has_bit.Goals as goal

pub returns : goal.returns
returns c = bit_by_and c.args.i c.args.mask
