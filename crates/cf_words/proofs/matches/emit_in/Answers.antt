use Rattle.std.proofs.Common.{◌∙◌, sym, ap₂, subst, Some, None}
use Rattle.cf_words.proofs.FoundLemmas.{file_is}
use Rattle.cf_words.specs.Words.{WordsAnswer, emit_on}
use Rattle.cf_words.proofs.matches.emit_in.Goals as goal

pub returns-in-Some-clause-command : goal.returns-in-Some-clause-command
returns-in-Some-clause-command c =
    let word = c.args.language.now in
    let file = c.in-Some.file in
    subst (λ o. WordsAnswer o c.emit_on.result)
    (ap₂ (λ m n. emit_on word m n file.now) c.is_set.ensures c.name_found.ensures
    ∙ file_is c.args.found.now word (Some file) (rw c.in-Some.is at c.get_str.ensures)) c.emit_on.ensures.command

pub returns-in-None-clause-command : goal.returns-in-None-clause-command
returns-in-None-clause-command c = sym (file_is c.args.found.now c.args.language.now None (rw c.in-None.is at c.get_str.ensures))
