use Rattle.cf_late.proofs.ChooseLaws.{late_chooses_are_allowed}
use Rattle.cf_late.proofs.late_chooses_are_allowed.Goals as goal

pub returns : goal.returns
returns c = late_chooses_are_allowed
