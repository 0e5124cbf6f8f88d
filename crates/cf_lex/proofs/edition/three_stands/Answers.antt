use Rattle.std.proofs.Common.{rules}
use Rattle.cf_lex.proofs.EditionLemmas.{three_some}
use Rattle.cf_lex.proofs.edition.three_stands.Goals as goal

pub returns-in-Some : goal.returns-in-Some
returns-in-Some c = search (rules, three_some)
