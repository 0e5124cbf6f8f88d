use Rattle.std.proofs.Common.{length}
use Rattle.cf_form.proofs.choose.+branching.Given as goal

abbrev pub decreases-branching : goal.decreases-branching
decreases-branching l = length l.levels.now
