use Rattle.std.proofs.Common.{◌∙◌, refl, sym}
use Rattle.cf_lines.proofs.opening.answering.Goals as goal

pub returns-then-answers_lines : goal.returns-then-answers_lines
returns-then-answers_lines c =
    (refl, sym (c.answers_lines.ensures c.args.command.form c.args.command.file.now) ∙ c.if-answers_lines.true)

pub returns : goal.returns
returns c = sym (c.answers_lines.ensures c.args.command.form c.args.command.file.now) ∙ c.if-answers_lines.false
