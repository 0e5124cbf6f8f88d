use Rattle.std.proofs.Common.{length}
use Rattle.cf_form.proofs.telling.+tell_branches.Given as goal

abbrev pub decreases-tell_branches : goal.decreases-tell_branches
decreases-tell_branches l = length l.levels.now
