use Rattle.std.proofs.lemmas.Result.{IfOk-weaker}
use Rattle.cf_form.specs.ToldView.{told_branch}
use Rattle.cf_answer.specs.Checking.{asked_view}
use Rattle.cf_answer.specs.ToldChecks.{IsBranchUniqueness}
use Rattle.cf_answer.proofs.ToldLemmas.{uniqueness_solved, uniqueness_refused}
use Rattle.cf_answer.proofs.told_check.branch_uniqueness.Goals as goal

pub returns-in-Ok : goal.returns-in-Ok
returns-in-Ok c =
    IfOk-weaker c.named_uniqueness.result _ (IsBranchUniqueness (asked_view c.args.asked.now) (told_branch c.args.branch.now))
    (λ told h. uniqueness_solved (asked_view c.args.asked.now) (told_branch c.args.branch.now) c.in-Ok.solved h.0 told c.in-Ok.ensures h.1 h.2)
    (rw c.deref.ensures.value at c.named_uniqueness.ensures)

pub returns-in-Err : goal.returns-in-Err
returns-in-Err c =
    let is = c.in-Err.ensures in
    IfOk-weaker c.refused_uniqueness.result _ (IsBranchUniqueness (asked_view c.args.asked.now) (told_branch c.args.branch.now))
    (λ told h. uniqueness_refused (asked_view c.args.asked.now) (told_branch c.args.branch.now) c.in-Err.fault told is h)
    c.refused_uniqueness.ensures
