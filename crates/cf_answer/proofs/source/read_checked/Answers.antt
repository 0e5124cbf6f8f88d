use Rattle.std.proofs.Common.{sym}
use Rattle.std.proofs.lemmas.Result.{err_from_is_err_and}
use Rattle.cf_tree.specs.DefView.{program_tree}
use Rattle.cf_program.specs.declared.linearity.Linearity.TheVariants.{Plain}
use Rattle.cf_answer.specs.Refusals.{IsBroken}
use Rattle.cf_answer.proofs.TextLemmas.{misspelled_or, checked_verdict}
use Rattle.cf_answer.proofs.source.read_checked.Goals as goal

pub parsed-requires-clause-edition : goal.parsed-requires-clause-edition
parsed-requires-clause-edition c = sym c.requires.edition

pub returns-in_err-program : goal.returns-in_err-program
returns-in_err-program c =
    let p = err_from_is_err_and c.from_residual.result c.from_residual.ensures.1 in
    rw (p.1, p.2) (misspelled_or (λ edition. IsBroken edition Plain) _ _ c.in_err-program.ensures.verdict)

pub returns : goal.returns
returns c =
    checked_verdict c.args.name.now c.args.text.now (program_tree c.in_ok-program.program) c.checked_program.result c.requires.edition
    c.in_ok-program.ensures.verdict c.checked_program.ensures
