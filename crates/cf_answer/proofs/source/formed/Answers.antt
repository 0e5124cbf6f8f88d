use Rattle.std.proofs.Common.{subst, sym}
use Rattle.std.proofs.lemmas.Result.{err_from_is_err_and}
use Rattle.cf_program.specs.Typed.{typed_tree}
use Rattle.cf_program.specs.declared.linearity.Linearity.TheVariants.{Plain}
use Rattle.cf_form.specs.FormAnswers.{IsFormOf}
use Rattle.cf_answer.proofs.source.formed.Goals as goal

pub returns-in_err-formed : goal.returns-in_err-formed
returns-in_err-formed c =
    let p = err_from_is_err_and c.from_residual.result c.from_residual.ensures.1 in rw (p.1, p.2) c.in_err-formed.ensures

pub returns : goal.returns
returns c =
    let f = c.in_ok-formed.ensures in
    (f.0, f.1, subst (λ t. IsFormOf Plain f.0 (typed_tree t)) (sym c.into_typed.ensures) f.2.0)
