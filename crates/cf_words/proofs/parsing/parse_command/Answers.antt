use Rattle.std.proofs.Common.{rules, ◌≡◌, true, map, string_bytes}
use Rattle.std.proofs.lemmas.Result.{err_from_is_err_and}
use Rattle.cf_words.proofs.FoundLemmas.{not_parsed, parsed_as}
use Rattle.cf_words.specs.Words.{may_be_parsed}
use Rattle.cf_words.proofs.parsing.parse_command.Goals as goal

pub returns-clause-answer : goal.returns-clause-answer
returns-clause-answer c =
    let words = map string_bytes c.args.words.now in
    let tested : may_be_parsed words ≡ true = search rules in
    parsed_as words _ c.command_found.result tested c.in_ok-matches.ensures c.command_found.ensures.command

pub returns-in_err-matches-clause-answer : goal.returns-in_err-matches-clause-answer
returns-in_err-matches-clause-answer c =
    let words = map string_bytes c.args.words.now in
    let tested : may_be_parsed words ≡ true = search rules in
    let p = err_from_is_err_and c.from_residual.result c.from_residual.ensures.1 in
    rw (p.1, p.2) (not_parsed words c.in_err-matches.field-0.0 tested c.in_err-matches.ensures)
