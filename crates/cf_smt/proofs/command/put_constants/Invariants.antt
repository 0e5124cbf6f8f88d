use Rattle.std.proofs.Common.{◌≡◌, ◌++◌, drop}
use Rattle.cf_smt.specs.Commands.{constants}
use Rattle.cf_smt.proofs.command.put_constants.Given as goal

abbrev pub invariant-loop-name : goal.invariant-loop-name
invariant-loop-name l = l.out.items ++ constants (drop l.name-index l.names) ≡ l.fn.out.items ++ constants l.names
