use Rattle.std.proofs.Common.{map}
use Rattle.std.proofs.lemmas.Result.{err_from_is_err_and}
use Rattle.cf_form.specs.ToldView.{told_choose}
use Rattle.cf_answer.specs.FrontView.{file_view}
use Rattle.cf_answer.proofs.CheckLemmas.{program_checks}
use Rattle.cf_answer.proofs.LoweredLemmas.{lowered_defs, lowered_refused}
use Rattle.cf_answer.proofs.check.checks.Goals as goal

pub returns-in_err-chooses : goal.returns-in_err-chooses
returns-in_err-chooses c =
    let p = err_from_is_err_and c.from_residual.result c.from_residual.ensures.1 in
    λ source s conditions. rw (p.1, p.2) (lowered_refused source c.args.lowered.now _ s c.typed.ensures.value _ c.in_err-chooses.ensures.refused)

pub lines-requires-clause-order : goal.lines-requires-clause-order
lines-requires-clause-order c = rw c.matches.ensures.value c.matches.ensures.order

pub lines-requires-clause-classes : goal.lines-requires-clause-classes
lines-requires-clause-classes c = rw c.matches.ensures.value c.requires

pub returns : goal.returns
returns c =
    let written = rw (c.matches.ensures.value, c.deref.ensures.value) at c.in_ok-checks.ensures in
    λ source s conditions.
    program_checks (file_view c.args.file.now) s.typed.defs _ c.args.lowered.now.matches.items (map told_choose c.args.told.now) c.in_ok-chooses.chooses.items
    c.in_ok-checks.checks.text.items c.in_ok-checks.checks.answered
    (lowered_defs source c.args.lowered.now _ s c.typed.ensures.value) s.matches c.in_ok-chooses.ensures.solved
    (λ qs solved. written qs solved conditions)
