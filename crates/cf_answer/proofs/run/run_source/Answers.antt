use Rattle.std.proofs.Common.{◌∙◌, refl}
use Rattle.std.proofs.lemmas.Result.{err_from_is_err_and}
use Rattle.cf_answer.specs.Steps.{replier_of}
use Rattle.cf_answer.specs.declared.answerer.Replier.{Replier}
use Rattle.cf_answer.proofs.AnswerLemmas.{stopped_answers, through_answers}
use Rattle.cf_answer.proofs.FileLemmas.{run_passed, run_without_memory, named_owes, named_none}
use Rattle.cf_answer.proofs.run.run_source.Goals as goal

pub returns-in_err-runner-clause-answers : goal.returns-in_err-runner-clause-answers
returns-in_err-runner-clause-answers g c =
    let p = err_from_is_err_and c.from_residual.result c.from_residual.ensures.1 in
    λ file. rw (p.1, p.2) (stopped_answers _ _ _ _ _ _ c.in_err-runner.ensures.kept c.in_err-runner.ensures.verdict)

pub returns-in_err-end-clause-answers : goal.returns-in_err-end-clause-answers
returns-in_err-end-clause-answers g c =
    let p = err_from_is_err_and c.from_residual-in_err-end.result c.from_residual-in_err-end.ensures.1 in
    λ file. rw (p.1, p.2) (run_without_memory c.args.flags c.args.form file _ _ _ _
    (named_none _ c.args.form _ _ _ c.in_ok-runner.runner c.in_ok-runner.ensures.verdict))

pub returns-clause-answers : goal.returns-clause-answers
returns-clause-answers g c =
    let replier : Replier = record { runner = c.in_ok-runner.runner; form = c.args.form } in
    λ file. through_answers _ _ _ _ (replier_of replier) _ _ _ _ refl
    (run_passed _ c.args.form _ _ _ _ _ (named_none _ c.args.form _ _ _ c.in_ok-runner.runner c.in_ok-runner.ensures.verdict))
    (c.deref-2.ensures.value ∙ (rw c.deref.ensures.value at c.in_ok-end.ensures))
    (λ ls replies r. named_owes _ _ _ _ replier ls replies c.in_ok-runner.ensures.verdict r)
    (rw c.edition_of.ensures.is at c.answer_by.ensures.through)
    c.answer_by.ensures.input c.answer_by.ensures.output (rw c.edition_of.ensures.is at c.answer_by.ensures.given) c.answer_by.ensures.ends
