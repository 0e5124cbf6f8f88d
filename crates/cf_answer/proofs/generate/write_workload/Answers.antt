use Rattle.std.proofs.Common.{◌∙◌, refl, sym, true, append-nil}
use Rattle.std.proofs.lemmas.Result.{err_from_is_err_and}
use Rattle.cf_answer.proofs.AnswerLemmas.{stopped_answers, written_answers, out_is_late}
use Rattle.cf_answer.proofs.FileLemmas.{workload_owes, workload_without_memory}
use Rattle.cf_answer.proofs.PassLemmas.{called_passed}
use Rattle.cf_answer.proofs.generate.write_workload.Goals as goal

pub returns-in_err-target-clause-answers : goal.returns-in_err-target-clause-answers
returns-in_err-target-clause-answers g c =
    let p = err_from_is_err_and c.from_residual.result c.from_residual.ensures.1 in
    λ input. rw (p.1, p.2) (stopped_answers _ _ _ _ _ _ c.in_err-target.ensures.kept c.in_err-target.ensures.verdict)

pub returns-in_err-text-clause-answers : goal.returns-in_err-text-clause-answers
returns-in_err-text-clause-answers g c =
    let p = err_from_is_err_and c.from_residual-in_err-text.result c.from_residual-in_err-text.ensures.1 in
    λ input. rw (p.1, p.2) (workload_without_memory c.args.size _ _ _ _ c.in_ok-target.ensures.verdict)

pub returns-clause-answers : goal.returns-clause-answers
returns-clause-answers g c =
    λ input. written_answers _ _ _ _ _ _ input _ _ _ refl refl (λ e. refl) (called_passed true _ _ c.in_ok-target.ensures.verdict.1)
    (workload_owes c.args.size _ _ _ _ _ c.in_ok-target.ensures.verdict c.in_ok-text.ensures.1 c.in_ok-text.ensures.2)
    (c.deref.ensures.value ∙ sym (append-nil _)) c.write_text.ensures.all c.write_text.ensures.prefix c.write_text.ensures.fault c.write_text.ensures.count

pub returns-clause-unwritten : goal.returns-clause-unwritten
returns-clause-unwritten g c = λ e. absurd (out_is_late c.write_text.result c.write_text.ensures.fault e)
