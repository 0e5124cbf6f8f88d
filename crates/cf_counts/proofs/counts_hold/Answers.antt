use Rattle.cf_counts.proofs.CountLaws.{counts_hold}
use Rattle.cf_counts.proofs.counts_hold.Goals as goal

pub returns : goal.returns
returns c = counts_hold
