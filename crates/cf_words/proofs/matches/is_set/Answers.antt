use Rattle.std.proofs.Common.{◌∙◌, Some, None}
use Rattle.cf_words.proofs.FoundLemmas.{set_is}
use Rattle.cf_words.proofs.matches.is_set.Goals as goal

pub returns-in-Some : goal.returns-in-Some
returns-in-Some c = c.eq.ensures ∙ set_is c.args.found.now c.args.flag.now (Some c.in-Some.text) (rw c.in-Some.is at c.get_str.ensures)

pub returns-in-None : goal.returns-in-None
returns-in-None c = set_is c.args.found.now c.args.flag.now None (rw c.in-None.is at c.get_str.ensures)
