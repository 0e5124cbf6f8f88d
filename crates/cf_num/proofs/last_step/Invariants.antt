use Rattle.cf_num.specs.Steps.{Step}
use Rattle.cf_num.proofs.last_step.Given as goal

abbrev pub invariant-loop-y : goal.invariant-loop-y
invariant-loop-y l = Step l.fn.a l.fn.b l.even l.x l.y l.u0 l.u1 l.v0 l.v1

abbrev pub decreases-loop-y : goal.decreases-loop-y
decreases-loop-y l = l.y
