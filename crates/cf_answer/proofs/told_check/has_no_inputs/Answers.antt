use Rattle.std.proofs.Common.{refl}
use Rattle.std.proofs.lemmas.Result.{IfOk-weaker}
use Rattle.cf_form.specs.ToldView.{told_branch}
use Rattle.cf_answer.specs.Checking.{asked_view}
use Rattle.cf_answer.proofs.BesideLemmas.{no_inputs_in}
use Rattle.cf_answer.proofs.told_check.has_no_inputs.Goals as goal

pub returns-in-Some : goal.returns-in-Some
returns-in-Some c =
    IfOk-weaker c.fails_always.result _ _
    (λ b h e. no_inputs_in (asked_view c.args.asked.now) (told_branch c.args.branch.now) _ (rw c.in-Some.is refl) (h e)) c.fails_always.ensures
