use Rattle.std.proofs.Common.{◌≡◌, ◌++◌, drop, map}
use Rattle.cf_smt.specs.Commands.{declared}
use Rattle.cf_smt.proofs.command.declared_texts.Given as goal

abbrev pub invariant-loop-name : goal.invariant-loop-name
invariant-loop-name l = l.all.items ++ map declared (drop l.name-index l.names) ≡ map declared l.names
