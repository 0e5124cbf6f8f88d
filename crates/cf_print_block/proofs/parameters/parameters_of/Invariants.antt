use Rattle.std.proofs.Common.{◌≡◌, drop}
use Rattle.cf_print_block.specs.Statements.{with_parameters, parameters_of}
use Rattle.cf_print_block.proofs.parameters.parameters_of.Given as goal

abbrev pub invariant-loop-name : goal.invariant-loop-name
invariant-loop-name l = with_parameters (drop l.name-index l.names) l.left l.parameters ≡ parameters_of l.names l.bases
