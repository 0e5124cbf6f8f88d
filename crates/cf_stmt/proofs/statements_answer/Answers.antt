use Rattle.cf_stmt.proofs.RunLaws.{statements_run}
use Rattle.cf_stmt.proofs.statements_answer.Goals as goal

pub returns : goal.returns
returns c = statements_run
