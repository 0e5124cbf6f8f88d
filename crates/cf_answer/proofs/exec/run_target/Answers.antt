use Rattle.std.proofs.Common.{refl, subst}
use Rattle.std.proofs.lemmas.Result.{err_from_is_err_and}
use Rattle.cf_answer.specs.Owed.{AreReplies}
use Rattle.cf_answer.specs.Steps.{replier_of}
use Rattle.cf_answer.proofs.AnswerLemmas.{stopped_answers, through_answers}
use Rattle.cf_answer.proofs.exec.run_target.Goals as goal

pub returns-in_err-target-clause-answers : goal.returns-in_err-target-clause-answers
returns-in_err-target-clause-answers g c =
    let p = err_from_is_err_and c.from_residual.result c.from_residual.ensures.1 in
    λ file given. rw (p.1, p.2) (stopped_answers _ given given _ _ _ refl c.in_err-target.ensures)

pub returns-clause-answers : goal.returns-clause-answers
returns-clause-answers g c =
    λ file given. through_answers _ given given _ (replier_of c.target_replier-replier.result) _ _ _ _ refl refl refl
    (λ ls replies r. (c.in_ok-target.target, c.in_ok-target.ensures, subst (λ who. AreReplies who ls replies) c.target_replier-replier.ensures r))
    (rw c.edition_of.ensures.is at c.answer_by.ensures.through) c.answer_by.ensures.input c.answer_by.ensures.output
    (rw c.edition_of.ensures.is at c.answer_by.ensures.given) c.answer_by.ensures.ends
