use Rattle.std.proofs.lemmas.Result.{IfOk-weaker}
use Rattle.cf_form.specs.ToldView.{told_branch}
use Rattle.cf_answer.specs.Checking.{asked_view}
use Rattle.cf_answer.proofs.BranchTellLemmas.{existence_told}
use Rattle.cf_answer.proofs.told_check.existence_in.Goals as goal

pub returns : goal.returns
returns c =
    IfOk-weaker c.branch_existence.result _ _
    (λ e h. existence_told (asked_view c.args.asked.now) (told_branch c.args.branch.now) (c.fits.ensures c.if-not-fits.false) e h) c.branch_existence.ensures
