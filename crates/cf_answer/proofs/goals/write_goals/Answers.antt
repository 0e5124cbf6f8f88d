use Rattle.std.proofs.Common.{◌∙◌, inr, refl, sym, append-nil}
use Rattle.std.proofs.lemmas.Result.{err_from_is_err_and}
use Rattle.cf_answer.proofs.AnswerLemmas.{out_is_late, stopped_answers, written_answers}
use Rattle.cf_answer.proofs.AskedLemmas.{branched_source}
use Rattle.cf_answer.proofs.ClaimLemmas.{claims_refused}
use Rattle.cf_answer.proofs.TextLemmas.{broken_refused}
use Rattle.cf_answer.proofs.goals.write_goals.Goals as goal

pub returns-in_err-program-clause-answers : goal.returns-in_err-program-clause-answers
returns-in_err-program-clause-answers g c =
    let p = err_from_is_err_and c.from_residual.result c.from_residual.ensures.1 in
    λ file given input. rw (p.1, p.2) (stopped_answers _ given given _ _ _ refl (claims_refused _ _ (broken_refused _ _ c.in_err-program.ensures)))

pub returns-in_err-outputs-clause-answers : goal.returns-in_err-outputs-clause-answers
returns-in_err-outputs-clause-answers g c =
    let p = err_from_is_err_and c.from_residual-in_err-outputs.result c.from_residual-in_err-outputs.ensures.1 in
    λ file given input. rw (p.1, p.2) (stopped_answers _ given given _ _ _ refl c.in_err-outputs.ensures)

pub returns-in_err-goals-clause-answers : goal.returns-in_err-goals-clause-answers
returns-in_err-goals-clause-answers g c =
    let p = err_from_is_err_and c.from_residual-in_err-goals.result c.from_residual-in_err-goals.ensures.1 in
    λ file given input. rw (p.1, p.2) (stopped_answers _ given given _ _ _ refl (c.in_err-goals.ensures c.in_ok-program.ensures))

pub returns-clause-answers : goal.returns-clause-answers
returns-clause-answers g c =
    let s = c.in_ok-program.ensures in
    λ file given input. written_answers _ given given _ _ _ input _ _ _ refl refl (λ e. refl) refl
    (_, branched_source c.args.text.now c.in_ok-program.program s, c.in_ok-goals.ensures s)
    (c.deref-2.ensures.value ∙ sym (append-nil _)) c.write_text.ensures.all c.write_text.ensures.prefix c.write_text.ensures.fault c.write_text.ensures.count

pub returns-clause-unwritten : goal.returns-clause-unwritten
returns-clause-unwritten g c = λ e. absurd (out_is_late c.write_text.result c.write_text.ensures.fault e)
