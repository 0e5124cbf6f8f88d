use Rattle.cf_answer.proofs.WorkloadLaw.{sums_are}
use Rattle.cf_answer.proofs.laws.sums_are_of_quotients.Goals as goal

pub returns : goal.returns
returns c = sums_are
