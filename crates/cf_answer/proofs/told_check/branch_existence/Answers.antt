use Rattle.std.proofs.lemmas.Result.{IfOk-weaker}
use Rattle.cf_form.specs.ToldView.{told_branch}
use Rattle.cf_answer.specs.Checking.{asked_view}
use Rattle.cf_answer.specs.ToldChecks.{IsBranchExistence}
use Rattle.cf_answer.proofs.ToldLemmas.{existence_solved, existence_refused}
use Rattle.cf_answer.proofs.told_check.branch_existence.Goals as goal

pub returns-in-Ok : goal.returns-in-Ok
returns-in-Ok c =
    let of = rw c.in_ok-rel.ensures at c.in-Ok.ensures in
    IfOk-weaker c.named_existence.result _ (IsBranchExistence (asked_view c.args.asked.now) (told_branch c.args.branch.now))
    (λ told h. existence_solved (asked_view c.args.asked.now) (told_branch c.args.branch.now) c.in-Ok.solved h.0 told of h.1 h.2)
    (rw c.deref.ensures.value at c.named_existence.ensures)

pub returns-in-Err : goal.returns-in-Err
returns-in-Err c =
    let is = rw c.in-Err.is at c.solved_over-solved.ensures in
    IfOk-weaker c.refused_existence.result _ (IsBranchExistence (asked_view c.args.asked.now) (told_branch c.args.branch.now))
    (λ told h. existence_refused (asked_view c.args.asked.now) (told_branch c.args.branch.now) c.in-Err.fault told _ c.in_ok-rel.ensures is h)
    c.refused_existence.ensures
