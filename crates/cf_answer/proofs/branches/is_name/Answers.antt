use Rattle.std.proofs.Common.{◌≡◌, [], ◌∷◌, rules}
use Rattle.cf_lex.specs.declared.token.TokenKind.TheVariants.{Word}
use Rattle.cf_answer.proofs.NameLemmas.{name_read, name_not_read}
use Rattle.cf_answer.proofs.branches.is_name.Goals as goal

pub returns-in-Ok : goal.returns-in-Ok
returns-in-Ok c =
    let alone : c.deref.result.now ≡ record { place = record { line = 1; column = 1 }; kind = Word c.args.name.now } ∷ [] = search rules in
    name_read _ c.args.name.now c.deref.result.now _ _ alone c.in-Ok.ensures c.is_word.ensures

pub returns-in-Err-TokensLeft : goal.returns-in-Err-TokensLeft
returns-in-Err-TokensLeft c =
    let alone : c.deref.result.now ≡ record { place = record { line = 1; column = 1 }; kind = Word c.args.name.now } ∷ [] = search rules in
    name_not_read _ c.args.name.now c.deref.result.now _ alone (rw c.in-Err-TokensLeft.field-0-is at c.in-Err-TokensLeft.ensures)
