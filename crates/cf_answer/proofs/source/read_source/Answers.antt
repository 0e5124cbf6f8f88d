use Rattle.std.proofs.lemmas.Result.{err_from_is_err_and}
use Rattle.cf_tree.specs.DefView.{program_tree}
use Rattle.cf_program.specs.declared.linearity.Linearity.TheVariants.{Plain}
use Rattle.cf_answer.specs.Refusals.{IsBroken}
use Rattle.cf_answer.proofs.TextLemmas.{misspelled_or, read_verdict}
use Rattle.cf_answer.proofs.source.read_source.Goals as goal

pub returns-in_err-program : goal.returns-in_err-program
returns-in_err-program c =
    let p = err_from_is_err_and c.from_residual.result c.from_residual.ensures.1 in
    rw (p.1, p.2) (misspelled_or (λ edition. IsBroken edition Plain) _ _ c.in_err-program.ensures.verdict)

pub returns : goal.returns
returns c =
    read_verdict _ c.args.text.now (program_tree c.in_ok-program.program) c.typed.result c.edition_of-edition.ensures.is
    c.in_ok-program.ensures.verdict c.typed.ensures
