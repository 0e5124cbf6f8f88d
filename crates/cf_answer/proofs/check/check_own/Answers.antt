use Rattle.std.proofs.Common.{map, sym}
use Rattle.std.proofs.lemmas.Result.{IfOk-weaker}
use Rattle.cf_form.specs.ToldView.{told_choose}
use Rattle.cf_answer.specs.FrontView.{file_view}
use Rattle.cf_answer.proofs.CheckLemmas.{told_checked}
use Rattle.cf_answer.proofs.check.check_own.Goals as goal

pub returns-in-Told : goal.returns-in-Told
returns-in-Told c =
    let told = map told_choose c.args.told.now in
    let is = sym (rw c.in-Told.is at c.told_of.ensures) in
    IfOk-weaker c.check_told.result _ _
    (λ a h matches own. told_checked (file_view c.args.file.now) matches told c.args.choose.now _ _ _ _ a c.notes_at-notes.ensures h own is)
    c.check_told.ensures

pub returns-in-Nothing : goal.returns-in-Nothing
returns-in-Nothing c =
    let told = map told_choose c.args.told.now in
    let none = sym (rw c.in-Nothing.is at c.told_of.ensures) in
    IfOk-weaker c.check_choose.result _ _ (λ a h matches own. h (file_view c.args.file.now) matches told own none) c.check_choose.ensures
