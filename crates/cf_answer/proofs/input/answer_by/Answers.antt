use Rattle.std.proofs.Common.{refl}
use Rattle.std.proofs.lemmas.Result.{err_from_is_err_and}
use Rattle.cf_answer.specs.Steps.{cut}
use Rattle.cf_answer.proofs.AnswerLemmas.{through_written}
use Rattle.cf_answer.proofs.input.answer_by.Goals as goal

pub returns-in_err-answer_input-clause-through : goal.returns-in_err-answer_input-clause-through
returns-in_err-answer_input-clause-through g c =
    let p = err_from_is_err_and c.from_residual.result c.from_residual.ensures.1 in rw (p.1, p.2) (cut _ refl c.in_err-answer_input.ensures.runs)

pub returns-clause-through : goal.returns-clause-through
returns-clause-through g c = through_written _ _ _ _ _ _ _ _ _ _ c.in_ok-answer_input.ensures.runs c.write_text.ensures.all c.write_text.ensures.prefix
    c.write_text.ensures.fault
