use Rattle.std.proofs.Common.{◌≡◌, ◌++◌, drop}
use Rattle.cf_print_python.specs.Files.{called_parameters}
use Rattle.cf_print_python.proofs.opening.called_parameters.Given as goal

abbrev pub invariant-loop-name : goal.invariant-loop-name
invariant-loop-name l = l.all.items ++ called_parameters (drop l.name-index l.names) l.left ≡ called_parameters l.names l.bases
