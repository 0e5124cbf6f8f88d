use Rattle.std.proofs.lemmas.Result.{err_from_is_err_and}
use Rattle.cf_answer.proofs.CheckedLemmas.{checks_of_three}
use Rattle.cf_answer.proofs.TextLemmas.{broken_refused}
use Rattle.cf_answer.proofs.check.checks_in_three.Goals as goal

pub returns-in_err-source : goal.returns-in_err-source
returns-in_err-source c =
    let p = err_from_is_err_and c.from_residual.result c.from_residual.ensures.1 in rw (p.1, p.2) (broken_refused _ _ c.in_err-source.ensures)

pub returns-in_err-checks : goal.returns-in_err-checks
returns-in_err-checks c =
    let p = err_from_is_err_and c.from_residual-in_err-checks.result c.from_residual-in_err-checks.ensures.1 in
    rw (p.1, p.2) (c.in_err-checks.ensures c.args.text.now c.in_ok-source.ensures c.requires.edition)

pub returns : goal.returns
returns c =
    let whole = rw c.deref.ensures.value at c.in_ok-more.ensures in
    checks_of_three c.args.name.now c.args.text.now c.in_ok-source.source c.in_ok-checks.checks c.in_ok-more.more.text.items c.in_ok-more.more.answered
    c.requires.edition c.in_ok-source.ensures (c.in_ok-checks.ensures c.args.text.now c.in_ok-source.ensures c.requires.edition) whole.0 whole.1
