use Rattle.std.proofs.Common.{map}
use Rattle.std.proofs.lemmas.Result.{IfOk-weaker}
use Rattle.cf_form.specs.ToldView.{told_branch}
use Rattle.cf_answer.specs.Checking.{asked_view}
use Rattle.cf_answer.proofs.TellLemmas.{existences_tell}
use Rattle.cf_answer.proofs.told_check.told_existence.Goals as goal

pub returns : goal.returns
returns c = IfOk-weaker c.existence_in_all.result _ _ (λ e h. existences_tell (asked_view c.args.asked.now) (map told_branch c.args.branches.now) e h)
    c.existence_in_all.ensures
