use Rattle.std.proofs.Common.{◌≡◌}
use Rattle.cf_close.proofs.closing.close.Given as goal

abbrev pub invariant-loop : goal.invariant-loop
invariant-loop g l = l.refutation ≡ l.fn.problem
