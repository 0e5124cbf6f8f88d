use Rattle.cf_build.proofs.LoweredAnswers.{same_chooses}
use Rattle.cf_build.proofs.lowering_keeps_chooses.Goals as goal

pub returns : goal.returns
returns c = same_chooses
