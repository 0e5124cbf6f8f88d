use Rattle.cf_print_block.proofs.ParameterLaws.{parameters_differ}
use Rattle.cf_print_block.proofs.laws.parameters_differ.Goals as goal

pub returns : goal.returns
returns c = parameters_differ
