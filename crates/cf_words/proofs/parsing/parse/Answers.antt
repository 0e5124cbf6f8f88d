use Rattle.std.proofs.Common.{map, string_bytes}
use Rattle.cf_words.proofs.FoundLemmas.{told, told_of, told_read, untold, untold_of, untold_read}
use Rattle.cf_words.proofs.parsing.parse.Goals as goal

pub returns-in-Some-clause-answer : goal.returns-in-Some-clause-answer
returns-in-Some-clause-answer c =
    let words = map string_bytes c.args.words.now in
    told_of words _ (told words _ c.in-Some.command c.about.ensures.command c.in-Some.is)

pub returns-in-Some-clause-early : goal.returns-in-Some-clause-early
returns-in-Some-clause-early c = λ e.
    let words = map string_bytes c.args.words.now in
    absurd (told_read words _ (told words _ c.in-Some.command c.about.ensures.command c.in-Some.is) e)

pub returns-in-None-clause-answer : goal.returns-in-None-clause-answer
returns-in-None-clause-answer c =
    let words = map string_bytes c.args.words.now in
    untold_of words _ (untold words _ c.about.ensures.command c.in-None.is) c.parse_command.ensures.answer

pub returns-in-None-clause-early : goal.returns-in-None-clause-early
returns-in-None-clause-early c = λ e.
    let words = map string_bytes c.args.words.now in
    c.parse_command.ensures.early (untold_read words (untold words _ c.about.ensures.command c.in-None.is) e)
