use Rattle.std.proofs.Common.{◌∙◌, sym, Ok, Err}
use Rattle.clap.specs.Words.{found_of, rows_of}
use Rattle.cf_words.proofs.FoundLemmas.{answer_none, answer_some, emit_behind, plain_behind}
use Rattle.cf_words.specs.declared.fault.WordsFault.TheVariants.{Usage}
use Rattle.cf_words.proofs.matches.command_behind.Goals as goal

pub returns-then-eq-clause-command : goal.returns-then-eq-clause-command
returns-then-eq-clause-command c =
    emit_behind c.args.name.now (rows_of (found_of c.args.found.now)) _ (sym c.eq.ensures ∙ c.if-eq.true) c.emit_found.ensures.command

pub returns-in-Some-clause-command : goal.returns-in-Some-clause-command
returns-in-Some-clause-command c =
    plain_behind c.args.name.now (rows_of (found_of c.args.found.now)) (Ok c.in-Some.command) (sym c.eq.ensures ∙ c.if-eq.false)
    (answer_some _ _ c.in-Some.command c.plain_found.ensures.command c.in-Some.is)

pub returns-in-None-clause-command : goal.returns-in-None-clause-command
returns-in-None-clause-command c =
    plain_behind c.args.name.now (rows_of (found_of c.args.found.now)) (Err Usage) (sym c.eq.ensures ∙ c.if-eq.false)
    (answer_none _ _ c.plain_found.ensures.command c.in-None.is)
