use Rattle.std.proofs.Common.{sym, subst, Some, None}
use Rattle.cf_words.proofs.FoundLemmas.{language_is}
use Rattle.cf_words.specs.Words.{WordsAnswer}
use Rattle.cf_words.proofs.matches.emit_found.Goals as goal

pub returns-in-Some-clause-command : goal.returns-in-Some-clause-command
returns-in-Some-clause-command c =
    subst (λ o. WordsAnswer o c.emit_in.result) (language_is c.args.found.now (Some c.in-Some.language) (rw c.in-Some.is at c.get_str.ensures))
    c.emit_in.ensures.command

pub returns-in-None-clause-command : goal.returns-in-None-clause-command
returns-in-None-clause-command c = sym (language_is c.args.found.now None (rw c.in-None.is at c.get_str.ensures))
