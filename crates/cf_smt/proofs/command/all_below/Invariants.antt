use Rattle.std.proofs.Common.{◌≡◌, ◌++◌, drop}
use Rattle.cf_smt.specs.Commands.{all_below}
use Rattle.cf_smt.proofs.command.all_below.Given as goal

abbrev pub invariant-loop-name : goal.invariant-loop-name
invariant-loop-name l = l.all.items ++ all_below (drop l.name-index l.names) l.left ≡ all_below l.names l.bounds
