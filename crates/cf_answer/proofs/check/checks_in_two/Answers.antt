use Rattle.std.proofs.Common.{All}
use Rattle.std.proofs.lemmas.List.Elements.{All-nil}
use Rattle.std.proofs.lemmas.Result.{err_from_is_err_and}
use Rattle.cf_form.specs.Told.{HoldsCondition}
use Rattle.cf_answer.proofs.CheckedLemmas.{checks_of_two}
use Rattle.cf_answer.proofs.TextLemmas.{broken_refused}
use Rattle.cf_answer.proofs.check.checks_in_two.Goals as goal

pub returns-in_err-lowered : goal.returns-in_err-lowered
returns-in_err-lowered c =
    let p = err_from_is_err_and c.from_residual.result c.from_residual.ensures.1 in rw (p.1, p.2) (broken_refused _ _ c.in_err-lowered.ensures)

pub checks-requires : goal.checks-requires
checks-requires c = c.in_ok-lowered.ensures.classes

pub returns-in_err-checks : goal.returns-in_err-checks
returns-in_err-checks c =
    let p = err_from_is_err_and c.from_residual-in_err-checks.result c.from_residual-in_err-checks.ensures.1 in
    rw (p.1, p.2) (c.in_err-checks.ensures c.args.text.now c.in_ok-lowered.ensures (All-nil (λ d. All HoldsCondition d.branches)))

pub returns : goal.returns
returns c =
    checks_of_two c.args.name.now c.args.text.now c.in_ok-lowered.lowered c.in_ok-checks.checks.text.items c.in_ok-checks.checks.answered c.requires.edition
    c.in_ok-lowered.ensures (c.in_ok-checks.ensures c.args.text.now c.in_ok-lowered.ensures (All-nil (λ d. All HoldsCondition d.branches)))
