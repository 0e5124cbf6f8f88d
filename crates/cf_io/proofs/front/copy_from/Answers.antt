use Rattle.cf_io.proofs.FrontLemmas.{range_from, front_of}
use Rattle.cf_io.proofs.front.copy_from.Goals as goal

pub returns-clause-front : goal.returns-clause-front
returns-clause-front c = front_of _ _ _ _ (rw range_from at c.copy_front.ensures.front)
