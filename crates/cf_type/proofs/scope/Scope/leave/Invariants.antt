use Rattle.std.proofs.Common.{◌≡◌, length, take}
use Rattle.cf_type.proofs.scope.Scope.leave.Given as goal

abbrev pub invariant-loop-self : goal.invariant-loop-self
invariant-loop-self l = take l.fn.size l.self ≡ take l.fn.size l.initial.self

abbrev pub decreases-loop-self : goal.decreases-loop-self
decreases-loop-self l = length l.self
