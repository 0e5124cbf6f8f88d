use Rattle.std.proofs.Common.{◌≡◌, ◌∙◌, refl, inl, rules, sym, append-nil}
use Rattle.std.proofs.lemmas.Result.{err_from_is_err_and}
use Rattle.cf_answer.specs.Refusals.{IsBadEmission}
use Rattle.cf_answer.proofs.AnswerLemmas.{memory_answers, stopped_answers, written_answers, out_is_late}
use Rattle.cf_answer.proofs.EmitLemmas.{emission_unrefused}
use Rattle.cf_answer.proofs.TextLemmas.{misspelled_or}
use Rattle.cf_answer.proofs.emit.write_emitted.Goals as goal

pub returns-in_err-program-clause-answers : goal.returns-in_err-program-clause-answers
returns-in_err-program-clause-answers g c =
    let p = err_from_is_err_and c.from_residual.result c.from_residual.ensures.1 in
    λ file input. rw (p.1, p.2)
    (stopped_answers _ _ _ _ _ _ refl (misspelled_or (IsBadEmission c.args.emitting.now.language) _ _ c.in_err-program.ensures.verdict))

pub returns-in_err-target-clause-answers : goal.returns-in_err-target-clause-answers
returns-in_err-target-clause-answers g c =
    let p = err_from_is_err_and c.from_residual-in_err-target.result c.from_residual-in_err-target.ensures.1 in
    λ file input. rw (p.1, p.2)
    (stopped_answers _ _ _ _ _ _ c.in_err-target.ensures.kept
    (c.in_err-target.ensures.verdict c.args.text.now c.edition_of-edition.ensures.is c.in_ok-program.ensures.verdict))

pub returns-in_err-printed-clause-answers : goal.returns-in_err-printed-clause-answers
returns-in_err-printed-clause-answers g c =
    let p = err_from_is_err_and c.from_residual-in_err-printed.result c.from_residual-in_err-printed.ensures.1 in
    let compiled = c.in_ok-target.ensures.verdict c.args.text.now c.edition_of-edition.ensures.is c.in_ok-program.ensures.verdict in
    λ file input. rw (p.1, p.2)
    (memory_answers _ _ _ _ _ (inl c.in_ok-target.ensures.turned)
    (λ f r. absurd (emission_unrefused c.args.emitting.now.language c.args.text.now _ _ c.in_ok-target.target compiled f r)))

pub returns-clause-answers : goal.returns-clause-answers
returns-clause-answers g c =
    let same : c.deref.result.now ≡ c.in_ok-printed.printed = search rules in
    let compiled = c.in_ok-target.ensures.verdict c.args.text.now c.edition_of-edition.ensures.is c.in_ok-program.ensures.verdict in
    λ file input. written_answers _ _ _ _ _ _ input _ _ _ refl refl (λ e. refl) (inl c.in_ok-target.ensures.turned)
    (c.in_ok-target.target, compiled, c.in_ok-target.ensures.turned, c.in_ok-printed.ensures)
    (same ∙ sym (append-nil _)) c.write_text.ensures.all c.write_text.ensures.prefix c.write_text.ensures.fault c.write_text.ensures.count

pub returns-clause-unwritten : goal.returns-clause-unwritten
returns-clause-unwritten g c = λ e. absurd (out_is_late c.write_text.result c.write_text.ensures.fault e)
