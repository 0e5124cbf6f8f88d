use Rattle.cf_answer.proofs.AgreeLaws.{needs_are_checked}
use Rattle.cf_answer.proofs.laws.needs_are_checked.Goals as goal

pub returns : goal.returns
returns c = needs_are_checked
