use Rattle.cf_answer.proofs.AgreeLaws.{compiled_is_run}
use Rattle.cf_answer.proofs.laws.compiled_is_run.Goals as goal

pub returns : goal.returns
returns c = compiled_is_run
