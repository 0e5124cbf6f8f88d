use Rattle.cf_answer.proofs.WorkloadAccepted.{gen_accepted}
use Rattle.cf_answer.proofs.laws.gen_is_accepted.Goals as goal

pub returns : goal.returns
returns c = gen_accepted
