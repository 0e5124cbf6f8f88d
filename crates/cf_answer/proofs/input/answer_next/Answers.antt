use Rattle.std.proofs.Common.{arith, rules}
use Rattle.std.proofs.lemmas.Grind.{common_steps}
use Rattle.std.proofs.lemmas.Result.{err_from_is_err_and}
use Rattle.cf_answer.specs.Steps.{replier_of}
use Rattle.cf_answer.proofs.StepLemmas.{failed_next, stopped_next}
use Rattle.cf_answer.proofs.input.answer_next.Goals as goal

pub returns-in-Err-clause-fault : goal.returns-in-Err-clause-fault
returns-in-Err-clause-fault g c = λ most left old total r few.
    failed_next (replier_of c.args.replier.now) _ _ _ _ _ c.requires.some c.in-Err.ensures.bytes most left old total r few

pub returns-in_err-answer_piece-clause-fault : goal.returns-in_err-answer_piece-clause-fault
returns-in_err-answer_piece-clause-fault g c =
    let p = err_from_is_err_and c.from_residual.result c.from_residual.ensures.1 in
    rw (p.1, p.2) (λ most left old total r few.
    stopped_next (replier_of c.args.replier.now) _ _ _ _ _ _ _ _ c.in-Ok.ensures.bytes.0 (first_of (search rules, grind (arith, common_steps)))
    c.in_err-answer_piece.ensures.fault c.in_err-answer_piece.ensures.some most left old total r few)
