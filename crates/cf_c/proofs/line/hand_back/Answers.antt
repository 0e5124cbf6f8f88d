use Rattle.std.proofs.Common.{refl}
use Rattle.cf_c.proofs.LineLemmas.{nothing_filled}
use Rattle.cf_c.proofs.line.hand_back.Goals as goal

pub returns-in-Err : goal.returns-in-Err
returns-in-Err c = rw c.in-Err.is (nothing_filled _, refl)
