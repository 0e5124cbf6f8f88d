use Rattle.std.proofs.Common.{arith}
use Rattle.cf_num.proofs.EuclidLemmas.{Step-next}
use Rattle.cf_num.proofs.last_step.Goals as goal

pub loop-y-preserved : goal.loop-y-preserved
loop-y-preserved c = Step-next _ _ _ _ _ _ _ _ _ (omega arith) c.loop-y.invariant
