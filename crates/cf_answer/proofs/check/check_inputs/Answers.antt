use Rattle.std.proofs.Common.{map, rules}
use Rattle.std.proofs.lemmas.Result.{IfOk-weaker}
use Rattle.cf_form.specs.ToldView.{told_branch}
use Rattle.cf_answer.specs.Checking.{asked_view}
use Rattle.cf_answer.specs.FrontView.{notes_view}
use Rattle.cf_answer.proofs.BesideLemmas.{never_line}
use Rattle.cf_answer.proofs.check.check_inputs.Goals as goal

pub returns-in-Ok-true : goal.returns-in-Ok-true
returns-in-Ok-true c =
    IfOk-weaker c.only_line.result _ _
    (λ a h. never_line c.args.choose.now (asked_view c.args.asked.now) (map told_branch c.args.branches.now) (notes_view c.args.notes.now) _ _ _ a
    (c.in-Ok-true.ensures (search rules)) c.as_slice.ensures h.0 h.1) c.only_line.ensures
