use Rattle.std.proofs.Common.{refl, inr}
use Rattle.std.proofs.lemmas.Result.{err_from_is_err_and}
use Rattle.cf_answer.proofs.AnswerLemmas.{ended_answers, ended_late, late_fault, part_checked, stopped_answers}
use Rattle.cf_answer.proofs.check.write_checks.Goals as goal

pub returns-in_err-checks-clause-answers : goal.returns-in_err-checks-clause-answers
returns-in_err-checks-clause-answers g c =
    let p = err_from_is_err_and c.from_residual.result c.from_residual.ensures.1 in
    λ given input. rw (p.1, p.2) (stopped_answers _ given given _ _ _ refl c.in_err-checks.ensures)

pub returns-in_err-unmet-clause-answers : goal.returns-in_err-unmet-clause-answers
returns-in_err-unmet-clause-answers g c =
    let p = err_from_is_err_and c.from_residual-in_err-unmet.result c.from_residual-in_err-unmet.ensures.1 in
    λ given input. rw (p.1, p.2) (stopped_answers _ given given _ _ _ refl (inr refl))

pub returns-in_err-write_text-clause-answers : goal.returns-in_err-write_text-clause-answers
returns-in_err-write_text-clause-answers g c =
    let p = err_from_is_err_and c.from_residual-in_err-write_text.result c.from_residual-in_err-write_text.ensures.1 in
    let part = c.in_err-write_text.ensures in
    λ given input. rw (p.1, p.2)
    (part_checked c.args.strictness c.args.name.now given c.args.text.now c.in_ok-checks.checks.text.items c.in_ok-checks.checks.answered input _ _ _
    c.in_ok-checks.ensures (rw c.deref.ensures.value at part.prefix) part.fault part.count)

pub returns-in_err-write_text-clause-unwritten : goal.returns-in_err-write_text-clause-unwritten
returns-in_err-write_text-clause-unwritten g c =
    let p = err_from_is_err_and c.from_residual-in_err-write_text.result c.from_residual-in_err-write_text.ensures.1 in
    rw (p.1, p.2) (λ e. absurd (late_fault _ c.in_err-write_text.ensures.fault e))

pub returns-clause-answers : goal.returns-clause-answers
returns-clause-answers g c =
    λ given input. rw (c.end_of.ensures, c.in_ok-unmet.ensures)
    (ended_answers c.args.strictness c.args.name.now given c.args.text.now c.in_ok-checks.checks.text.items c.in_ok-checks.checks.answered input _ _
    c.in_ok-checks.ensures (rw c.deref.ensures.value at c.in_ok-write_text.ensures.all) (c.in_ok-write_text.ensures.count.same (λ e. cc e)))

pub returns-clause-unwritten : goal.returns-clause-unwritten
returns-clause-unwritten g c = λ e. absurd (ended_late c.in_ok-unmet.unmet (rw c.end_of.ensures at e))
