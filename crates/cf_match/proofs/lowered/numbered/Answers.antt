use Rattle.cf_match.proofs.Lowering.{same_matches}
use Rattle.cf_match.proofs.lowered.numbered.Goals as goal

pub returns-clause-matches : goal.returns-clause-matches
returns-clause-matches c = same_matches _ _ _ c.in_ok-all.ensures c.sort.ensures.same
