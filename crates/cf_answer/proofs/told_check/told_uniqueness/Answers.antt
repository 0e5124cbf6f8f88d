use Rattle.std.proofs.Common.{map}
use Rattle.std.proofs.lemmas.Result.{IfOk-weaker}
use Rattle.cf_form.specs.ToldView.{told_branch}
use Rattle.cf_answer.specs.Checking.{asked_view}
use Rattle.cf_answer.proofs.TellLemmas.{uniquenesses_tell}
use Rattle.cf_answer.proofs.told_check.told_uniqueness.Goals as goal

pub returns : goal.returns
returns c = IfOk-weaker c.uniqueness_in_all.result _ _
    (λ u h conditions. uniquenesses_tell (asked_view c.args.asked.now) (map told_branch c.args.branches.now) u conditions h) c.uniqueness_in_all.ensures
