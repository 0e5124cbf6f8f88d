use Rattle.std.proofs.Common.{inl, rules, subst, sym}
use Rattle.std.proofs.lemmas.Result.{err_from_is_err_and}
use Rattle.cf_program.specs.Typed.{typed_tree}
use Rattle.cf_program.specs.declared.linearity.Linearity.TheVariants.{Late}
use Rattle.cf_form.specs.FormAnswers.{IsFormOf}
use Rattle.cf_answer.specs.Refusals.{broken}
use Rattle.cf_answer.proofs.RuleLemmas.{fails_so, unformed}
use Rattle.cf_answer.proofs.source.formed_late.Goals as goal

pub returns-in_err-formed-in-Ok : goal.returns-in_err-formed-in-Ok
returns-in_err-formed-in-Ok c =
    let p = err_from_is_err_and c.from_residual.result c.from_residual.ensures.1 in
    rw (p.1, p.2) (unformed Late _ (typed_tree c.in-Ok.source) _ c.in-Ok.ensures c.in_err-formed-in-Ok.ensures)

pub returns-in_ok-formed-in-Ok : goal.returns-in_ok-formed-in-Ok
returns-in_ok-formed-in-Ok c = (
  typed_tree c.in-Ok.source,
  c.in-Ok.ensures,
  subst (λ t. IsFormOf Late (typed_tree c.in-Ok.source) (typed_tree t)) (sym c.into_late.ensures) c.in_ok-formed-in-Ok.ensures.0,
)

pub returns-in-Err : goal.returns-in-Err
returns-in-Err c = inl (broken c.in-Err.fault (fails_so c.in-Err.fault _ (search rules) c.in-Err.ensures))
