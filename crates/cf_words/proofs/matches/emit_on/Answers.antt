use Rattle.std.proofs.Common.{◌∙◌, sym}
use Rattle.std.specs.Prelude.{option_map}
use Rattle.cf_words.proofs.FoundLemmas.{goals_behind, language_behind}
use Rattle.cf_words.proofs.matches.emit_on.Goals as goal

pub returns-then-eq-clause-command : goal.returns-then-eq-clause-command
returns-then-eq-clause-command c =
    goals_behind c.args.word.now (option_map (λ n. n.now) c.args.name) c.args.file.now c.args.has_main _ (sym c.eq.ensures ∙ c.if-eq.true)
    c.emit_goals.ensures.command

pub returns-clause-command : goal.returns-clause-command
returns-clause-command c =
    language_behind c.args.word.now (option_map (λ n. n.now) c.args.name) c.args.file.now c.args.has_main _ (sym c.eq.ensures ∙ c.if-eq.false)
    c.emit_language.ensures.command
