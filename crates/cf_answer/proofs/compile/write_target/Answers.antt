use Rattle.std.proofs.Common.{◌∙◌, refl}
use Rattle.std.proofs.lemmas.Result.{err_from_is_err_and}
use Rattle.cf_answer.proofs.AnswerLemmas.{stopped_answers, printed_answers, printed_unwritten}
use Rattle.cf_answer.proofs.FileLemmas.{compile_owes, compiled_without_memory}
use Rattle.cf_answer.proofs.PassLemmas.{called_passed}
use Rattle.cf_answer.proofs.compile.write_target.Goals as goal

pub returns-in_err-target-clause-answers : goal.returns-in_err-target-clause-answers
returns-in_err-target-clause-answers g c =
    let p = err_from_is_err_and c.from_residual.result c.from_residual.ensures.1 in
    λ file input. rw (p.1, p.2) (stopped_answers _ _ _ _ _ _ c.in_err-target.ensures.kept c.in_err-target.ensures.verdict)

pub returns-in_err-text-clause-answers : goal.returns-in_err-text-clause-answers
returns-in_err-text-clause-answers g c =
    let p = err_from_is_err_and c.from_residual-in_err-text.result c.from_residual-in_err-text.ensures.1 in
    λ file input. rw (p.1, p.2) (compiled_without_memory c.args.flags file _ _ _ _ _ c.in_ok-target.ensures.verdict)

pub returns-clause-answers : goal.returns-clause-answers
returns-clause-answers g c =
    λ file input. printed_answers _ _ _ _ _ _ input _ _ _ refl refl (called_passed _ _ _ c.in_ok-target.ensures.verdict.1)
    (compile_owes c.args.flags file _ _ _ _ c.in_ok-target.ensures.verdict (rw c.edition_of-edition.ensures.is at c.in_ok-text.ensures.reads_back))
    (c.deref-2.ensures.value ∙ (rw (c.deref.ensures.value, c.edition_of-edition.ensures.is) at c.in_ok-text.ensures.text))
    (rw c.edition_of-edition.ensures.is at c.write_printed.ensures.fits) (rw c.edition_of-edition.ensures.is at c.write_printed.ensures.past)
    (λ e. rw (c.write_printed.ensures.unwritten e) refl) c.write_printed.ensures.all c.write_printed.ensures.prefix c.write_printed.ensures.fault
    c.write_printed.ensures.count

pub returns-clause-unwritten : goal.returns-clause-unwritten
returns-clause-unwritten g c = λ e. printed_unwritten _ c.write_printed.result c.write_printed.ensures.fault c.write_printed.ensures.unwritten e
