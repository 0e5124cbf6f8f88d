use Rattle.cf_range.proofs.RangeLaws.{total_codes}
use Rattle.cf_range.proofs.total_codes_evaluate.Goals as goal

pub returns : goal.returns
returns c = total_codes
