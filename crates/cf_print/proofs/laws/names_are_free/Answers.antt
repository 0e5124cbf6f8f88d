use Rattle.cf_print.proofs.NameLaws.{new_name_is_free}
use Rattle.cf_print.proofs.laws.names_are_free.Goals as goal

pub returns : goal.returns
returns c = new_name_is_free
