use Rattle.cf_stmt.proofs.RunLaws.{runs_are}
use Rattle.cf_stmt.proofs.leaves_at_once.Goals as goal

pub returns : goal.returns
returns c = runs_are
