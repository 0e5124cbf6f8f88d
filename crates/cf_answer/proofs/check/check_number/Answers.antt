use Rattle.std.proofs.Common.{map}
use Rattle.std.proofs.lemmas.Result.{IfOk-weaker}
use Rattle.cf_form.specs.ToldView.{told_choose}
use Rattle.cf_match.specs.Matches.{match_tree}
use Rattle.cf_answer.proofs.check.check_number.Goals as goal

pub returns-in-Choose : goal.returns-in-Choose
returns-in-Choose c =
    let own = rw c.in-Choose.is at c.origin_of.ensures in
    IfOk-weaker c.check_own.result _ _ (λ a h. h (map match_tree c.args.matches.now.infos.now) own) c.check_own.ensures

pub returns-in-Arm : goal.returns-in-Arm
returns-in-Arm c = IfOk-weaker c.check_arm.result _ _ (λ a h. h (map told_choose c.args.told.now)) c.check_arm.ensures

pub returns-in-Match : goal.returns-in-Match
returns-in-Match c = IfOk-weaker c.check_match.result _ _ (λ a h. h (map told_choose c.args.told.now)) c.check_match.ensures
