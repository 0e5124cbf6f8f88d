use Rattle.std.proofs.Common.{◌≡◌, ◌+◌, drop}
use Rattle.cf_print.specs.Names.{longest}
use Rattle.cf_print.proofs.names.longest.Given as goal

abbrev pub invariant-loop-name : goal.invariant-loop-name
invariant-loop-name l = l.total + longest (drop l.name-index l.names) ≡ longest l.names
