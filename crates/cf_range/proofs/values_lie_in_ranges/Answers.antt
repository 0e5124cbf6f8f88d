use Rattle.cf_range.proofs.RangeLaws.{values_lie}
use Rattle.cf_range.proofs.values_lie_in_ranges.Goals as goal

pub returns : goal.returns
returns c = values_lie
