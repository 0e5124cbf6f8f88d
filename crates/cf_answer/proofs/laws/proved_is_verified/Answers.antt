use Rattle.cf_answer.proofs.AgreeLaws.{proved_is_verified}
use Rattle.cf_answer.proofs.laws.proved_is_verified.Goals as goal

pub returns : goal.returns
returns c = proved_is_verified
