use Rattle.std.proofs.Common.{◌≡◌, ◌∙◌, refl, sym, append-nil}
use Rattle.std.proofs.lemmas.Result.{err_from_is_err_and}
use Rattle.cf_lex.specs.Editions.{edition_of}
use Rattle.cf_answer.proofs.AnswerLemmas.{stopped_answers, printed_answers, printed_unwritten}
use Rattle.cf_answer.proofs.AskedLemmas.{branched_source}
use Rattle.cf_answer.proofs.TextLemmas.{broken_refused}
use Rattle.cf_answer.proofs.prove.write_blocks.Goals as goal

pub returns-in_err-program-clause-answers : goal.returns-in_err-program-clause-answers
returns-in_err-program-clause-answers g c =
    let p = err_from_is_err_and c.from_residual.result c.from_residual.ensures.1 in
    λ file given input. rw (p.1, p.2) (stopped_answers _ given given _ _ _ refl (broken_refused _ _ c.in_err-program.ensures))

pub returns-in_err-text-clause-answers : goal.returns-in_err-text-clause-answers
returns-in_err-text-clause-answers g c =
    let p = err_from_is_err_and c.from_residual-in_err-text.result c.from_residual-in_err-text.ensures.1 in
    λ file given input. rw (p.1, p.2) (stopped_answers _ given given _ _ _ refl (c.in_err-text.ensures c.args.text.now c.in_ok-program.ensures))

pub returns-clause-answers : goal.returns-clause-answers
returns-clause-answers g c =
    let s = c.in_ok-program.ensures in
    let edition : c.edition.result ≡ edition_of c.args.text.now = c.edition.ensures ∙ sym s.edition in
    λ file given input. printed_answers _ given given _ _ _ input _ _ _ refl refl refl
    (_, branched_source c.args.text.now c.in_ok-program.program s, c.in_ok-text.ensures c.args.text.now s)
    (c.deref.ensures.value ∙ sym (append-nil _)) (rw edition at c.write_printed.ensures.fits) (rw edition at c.write_printed.ensures.past)
    (λ e. rw (c.write_printed.ensures.unwritten e) refl) c.write_printed.ensures.all c.write_printed.ensures.prefix c.write_printed.ensures.fault
    c.write_printed.ensures.count

pub returns-clause-unwritten : goal.returns-clause-unwritten
returns-clause-unwritten g c = λ e. printed_unwritten _ c.write_printed.result c.write_printed.ensures.fault c.write_printed.ensures.unwritten e
