use Rattle.std.proofs.Common.{◌≡◌, ◌++◌, drop}
use Rattle.cf_smt.specs.Commands.{all_asserted}
use Rattle.cf_smt.proofs.command.put_all_asserted.Given as goal

abbrev pub invariant-loop-term : goal.invariant-loop-term
invariant-loop-term l = l.out.items ++ all_asserted (drop l.term-index l.terms) ≡ l.fn.out.items ++ all_asserted l.terms
