use Rattle.cf_words.proofs.FoundLemmas.{name_is}
use Rattle.cf_words.proofs.matches.name_found.Goals as goal

pub returns : goal.returns
returns c = name_is c.args.found.now c.get_str.result c.get_str.ensures
