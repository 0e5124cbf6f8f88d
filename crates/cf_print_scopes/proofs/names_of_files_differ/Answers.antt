use Rattle.cf_print_scopes.proofs.FileLaws.{names_differ}
use Rattle.cf_print_scopes.proofs.names_of_files_differ.Goals as goal

pub returns : goal.returns
returns c = names_differ
