use Rattle.cf_print_scopes.proofs.ScopeLaws.{names_differ}
use Rattle.cf_print_scopes.proofs.names_differ.Goals as goal

pub returns : goal.returns
returns c = names_differ
