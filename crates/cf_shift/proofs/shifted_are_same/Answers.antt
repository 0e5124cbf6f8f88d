use Rattle.cf_shift.proofs.ShiftedPaths.{shifted_path}
use Rattle.cf_shift.proofs.shifted_are_same.Goals as goal

pub returns : goal.returns
returns c = shifted_path
