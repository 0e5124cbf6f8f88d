use Rattle.std.proofs.Common.{◌≡◌, ◌∙◌, rules, sym, subst}
use Rattle.std.specs.Prelude.{option_map}
use Rattle.cf_words.specs.Commands.{plain_emitting}
use Rattle.cf_words.specs.Words.{WordsAnswer, emit_named}
use Rattle.cf_words.proofs.FoundLemmas.{language_there, no_language}
use Rattle.cf_words.proofs.matches.emit_language.Goals as goal

pub returns-in-Some-clause-command : goal.returns-in-Some-clause-command
returns-in-Some-clause-command c =
    language_there c.args.word.now (option_map (λ n. n.now) c.args.name) c.args.file.now c.args.has_main c.in-Some.language _
    (sym c.language_of.ensures ∙ c.in-Some.is)
    (subst (λ n. WordsAnswer (emit_named (record { language = c.in-Some.language; has_main = c.args.has_main; name = n }) c.args.file.now) c.emit_named.result)
    c.name_or_usual.ensures c.emit_named.ensures.command)

pub returns-in-None-clause-command : goal.returns-in-None-clause-command
returns-in-None-clause-command c =
    no_language c.args.word.now (option_map (λ n. n.now) c.args.name) c.args.file.now c.args.has_main (sym c.language_of.ensures ∙ c.in-None.is)
