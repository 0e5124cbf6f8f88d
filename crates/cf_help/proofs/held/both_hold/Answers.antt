use Rattle.cf_help.proofs.FoundSteps.{both_end}
use Rattle.cf_help.proofs.held.both_hold.Goals as goal

pub returns-in-None : goal.returns-in-None
returns-in-None c = both_end _ _ _ _ c.in-None.ensures.cases c.loop-a.invariant
