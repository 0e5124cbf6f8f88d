use Rattle.std.proofs.Common.{map}
use Rattle.std.proofs.lemmas.Result.{IfOk-weaker}
use Rattle.cf_form.specs.ToldView.{told_branch}
use Rattle.cf_answer.specs.Checking.{asked_view}
use Rattle.cf_answer.specs.FrontView.{notes_view}
use Rattle.cf_answer.proofs.BesideLemmas.{no_inputs_line}
use Rattle.cf_answer.proofs.check.check_asked.Goals as goal

pub returns-then-branch : goal.returns-then-branch
returns-then-branch c =
    IfOk-weaker c.only_line.result _ _
    (λ a h. no_inputs_line c.args.choose.now (asked_view c.args.asked.now) (map told_branch c.args.branches.now) (notes_view c.args.notes.now) _ _ _ a
    (c.in_ok-have_no_inputs.ensures c.if-branch.true) c.as_slice.ensures h.0 h.1) c.only_line.ensures
