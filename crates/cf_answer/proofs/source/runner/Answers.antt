use Rattle.std.proofs.Common.{inr, refl}
use Rattle.std.proofs.lemmas.Result.{err_from_is_err_and}
use Rattle.cf_tree.specs.DefView.{program_tree}
use Rattle.cf_answer.specs.Refusals.{IsBadRun}
use Rattle.cf_answer.proofs.PassLemmas.{on_err}
use Rattle.cf_answer.proofs.TextLemmas.{misspelled_or}
use Rattle.cf_answer.proofs.source.runner.Goals as goal

pub returns-in_err-program-clause-verdict : goal.returns-in_err-program-clause-verdict
returns-in_err-program-clause-verdict g c =
    let p = err_from_is_err_and c.from_residual.result c.from_residual.ensures.1 in
    rw (p.1, p.2) (misspelled_or IsBadRun _ _ c.in_err-program.ensures.verdict)

pub returns-in_err-program-clause-kept : goal.returns-in_err-program-clause-kept
returns-in_err-program-clause-kept g c = on_err c.from_residual.result refl

pub returns-in_err-names-clause-verdict : goal.returns-in_err-names-clause-verdict
returns-in_err-names-clause-verdict g c =
    let p = err_from_is_err_and c.from_residual-in_err-names.result c.from_residual-in_err-names.ensures.1 in rw (p.1, p.2) (inr refl)

pub returns-in_err-names-clause-kept : goal.returns-in_err-names-clause-kept
returns-in_err-names-clause-kept g c = on_err c.from_residual-in_err-names.result refl

pub returns-in_err-answerer-clause-verdict : goal.returns-in_err-answerer-clause-verdict
returns-in_err-answerer-clause-verdict g c =
    let p = err_from_is_err_and c.from_residual-in_err-answerer.result c.from_residual-in_err-answerer.ensures.1 in
    rw (p.1, p.2) (c.in_err-answerer.ensures.verdict c.args.text.now c.edition_of-edition.ensures.is c.in_ok-program.ensures.verdict)

pub returns-in_err-answerer-clause-kept : goal.returns-in_err-answerer-clause-kept
returns-in_err-answerer-clause-kept g c = on_err c.from_residual-in_err-answerer.result c.in_err-answerer.ensures.kept

pub returns-clause-verdict : goal.returns-clause-verdict
returns-clause-verdict g c = (
  c.in_ok-answerer.ensures.verdict c.args.text.now c.edition_of-edition.ensures.is c.in_ok-program.ensures.verdict,
  (program_tree c.in_ok-program.program, c.in_ok-program.ensures.verdict, c.in_ok-names.ensures),
)
