use Rattle.cf_range.proofs.RangeLaws.{need_no_checks}
use Rattle.cf_range.proofs.operations_need_no_checks.Goals as goal

pub returns : goal.returns
returns c = need_no_checks
