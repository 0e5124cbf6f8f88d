use Rattle.cf_late.proofs.AllowedLaws.{late_runs_are_allowed}
use Rattle.cf_late.proofs.late_runs_are_allowed.Goals as goal

pub returns : goal.returns
returns c = late_runs_are_allowed
