use Rattle.cf_parse.proofs.Programs.{found_from}
use Rattle.cf_parse.proofs.source.program.Goals as goal

pub returns-in-Ok-clause-found : goal.returns-in-Ok-clause-found
returns-in-Ok-clause-found c = found_from c.args.edition _ _ _ _ c.as_slice.ensures.value c.in-Ok.ensures
