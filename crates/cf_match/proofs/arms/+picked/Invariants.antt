use Rattle.std.proofs.Common.{length}
use Rattle.cf_match.proofs.arms.+picked.Given as goal

abbrev pub decreases-picked : goal.decreases-picked
decreases-picked l = length l.arms.now
