use Rattle.std.proofs.Common.{◌≡◌, rules}
use Rattle.cf_lex.specs.Editions.{edition_of as edition_of_text}
use Rattle.cf_lex.proofs.EditionLemmas.{edition_is}
use Rattle.cf_lex.proofs.edition.edition_of.Goals as goal

pub returns : goal.returns
returns c =
    let is : c.edition_by.result ≡ edition_of_text c.args.text.now = search rules in
    record { means = edition_is c.args.text.now _ is; is = is }
