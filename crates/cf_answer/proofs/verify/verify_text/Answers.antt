use Rattle.std.proofs.Common.{◌≡◌, ◌∙◌, [], inl, inr, map, refl, subst, sym, append-nil}
use Rattle.std.proofs.lemmas.Result.{err_from_is_err_and}
use Rattle.cf_lex.specs.Editions.{edition_of}
use Rattle.cf_tree.specs.ChooseView.{choose_tree}
use Rattle.cf_cases.specs.Holding.{EachOf}
use Rattle.cf_cert.specs.Laws.{IsLinearChoose}
use Rattle.cf_steps.specs.Blocks.{block_trees}
use Rattle.cf_answer.specs.Branches.{in_branches}
use Rattle.cf_answer.specs.Verifying.{told_in, AreReadFrom}
use Rattle.cf_answer.proofs.AnswerLemmas.{stopped_answers, written_answers}
use Rattle.cf_answer.proofs.AskedLemmas.{are_linear, branched_all}
use Rattle.cf_answer.proofs.SourceLemmas.{plain_chooses}
use Rattle.cf_answer.proofs.VerifyLemmas.{steps_refused, blocks_refused, branched_lines, verified_owes}
use Rattle.cf_answer.proofs.verify.verify_text.Goals as goal

pub verdict-requires-clause-chooses : goal.verdict-requires-clause-chooses
verdict-requires-clause-chooses g c =
    let linear = are_linear c.in_ok-chooses.chooses.items c.in_ok-chooses.ensures.typed in
    subst (λ cs. EachOf IsLinearChoose (map choose_tree cs)) (sym c.deref.ensures.value) linear

pub returns-in_err-blocks-clause-answers : goal.returns-in_err-blocks-clause-answers
returns-in_err-blocks-clause-answers g c =
    let p = err_from_is_err_and c.from_residual.result c.from_residual.ensures.1 in
    λ file steps given input source s. rw (p.1, p.2) (stopped_answers _ given given _ _ _ refl
    (steps_refused source c.args.text.now c.args.program.now _ s (rw c.edition.ensures at c.in_err-blocks.ensures)))

pub returns-in_err-chooses-clause-answers : goal.returns-in_err-chooses-clause-answers
returns-in_err-chooses-clause-answers g c =
    let p = err_from_is_err_and c.from_residual-in_err-chooses.result c.from_residual-in_err-chooses.ensures.1 in
    λ file steps given input source s. rw (p.1, p.2) (stopped_answers _ given given _ _ _ refl (inr refl))

pub returns-in_err-verdict-clause-answers : goal.returns-in_err-verdict-clause-answers
returns-in_err-verdict-clause-answers g c =
    let p = err_from_is_err_and c.from_residual-in_err-verdict.result c.from_residual-in_err-verdict.ensures.1 in
    λ file steps given input source s. rw (p.1, p.2) (stopped_answers _ given given _ _ _ refl (inr refl))

pub returns-in_err-lines-in-Yes-clause-answers : goal.returns-in_err-lines-in-Yes-clause-answers
returns-in_err-lines-in-Yes-clause-answers g c =
    let p = err_from_is_err_and c.from_residual-in_err-lines-in-Yes.result c.from_residual-in_err-lines-in-Yes.ensures.1 in
    λ file steps given input source s. rw (p.1, p.2) (stopped_answers _ given given _ _ _ refl (inr refl))

pub returns-in-Yes-clause-answers : goal.returns-in-Yes-clause-answers
returns-in-Yes-clause-answers g c =
    let chooses = c.in_ok-chooses.chooses.items in
    let blocks = block_trees c.in_ok-blocks.blocks in
    let told = told_in c.args.program.now.formed in
    let qs = map choose_tree chooses in
    λ file steps given input source s.
    let branched = branched_all source c.args.program.now _ chooses c.typed.ensures.value c.in_ok-chooses.ensures.chooses s in
    let linear = subst (EachOf IsLinearChoose) (sym (plain_chooses told [] qs)) (are_linear chooses c.in_ok-chooses.ensures.typed) in
    let edition : c.edition.result ≡ edition_of source = c.edition.ensures ∙ sym s.edition in
    written_answers _ given given _ _ _ input _ _ _ refl refl (λ e. refl) refl
    (verified_owes file steps source c.args.text.now given given [] (in_branches told [] qs) blocks _ branched linear
    (subst (λ e. AreReadFrom e c.args.text.now blocks) edition c.in_ok-blocks.ensures)
    (rw (c.deref.ensures.value, c.chooses.ensures, c.in-Yes.is) at c.in_ok-verdict.ensures)
    (rw c.deref-in-Yes.ensures.value at c.in_ok-lines-in-Yes.ensures ∙ sym (branched_lines told [] qs)))
    (c.deref-in-Yes-2.ensures.value ∙ sym (append-nil _)) c.write_text.ensures.all c.write_text.ensures.prefix c.write_text.ensures.fault
    c.write_text.ensures.count

pub returns-clause-answers : goal.returns-clause-answers
returns-clause-answers g c =
    let chooses = c.in_ok-chooses.chooses.items in
    let blocks = block_trees c.in_ok-blocks.blocks in
    let told = told_in c.args.program.now.formed in
    λ file steps given input source s.
    let branched = branched_all source c.args.program.now _ chooses c.typed.ensures.value c.in_ok-chooses.ensures.chooses s in
    let edition : c.edition.result ≡ edition_of source = c.edition.ensures ∙ sym s.edition in
    stopped_answers _ given given _ _ _ refl
    (inl (blocks_refused source c.args.text.now (in_branches told [] (map choose_tree chooses)) blocks _ _ _ _ branched
    (subst (λ e. AreReadFrom e c.args.text.now blocks) edition c.in_ok-blocks.ensures)
    (rw (c.deref.ensures.value, c.chooses.ensures, c.in-Rejected.is) at c.in_ok-verdict.ensures)))
