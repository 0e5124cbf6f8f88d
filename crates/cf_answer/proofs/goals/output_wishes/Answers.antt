use Rattle.std.proofs.Common.{inr, refl}
use Rattle.std.proofs.lemmas.Result.{err_from_is_err_and}
use Rattle.cf_answer.specs.Refusals.{IsBadClaims}
use Rattle.cf_answer.proofs.TextLemmas.{misspelled_or}
use Rattle.cf_answer.proofs.goals.output_wishes.Goals as goal

pub returns-in_err-program : goal.returns-in_err-program
returns-in_err-program c =
    let p = err_from_is_err_and c.from_residual.result c.from_residual.ensures.1 in
    rw (p.1, p.2) (misspelled_or IsBadClaims _ _ c.in_err-program.ensures.verdict)

pub returns-in_err-names : goal.returns-in_err-names
returns-in_err-names c =
    let p = err_from_is_err_and c.from_residual-in_err-names.result c.from_residual-in_err-names.ensures.1 in rw (p.1, p.2) (inr refl)
