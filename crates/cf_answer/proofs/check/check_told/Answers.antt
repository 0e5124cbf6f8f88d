use Rattle.std.proofs.Common.{ap, map}
use Rattle.std.proofs.lemmas.Result.{IfOk-weaker}
use Rattle.cf_form.specs.ToldView.{told_branch, told_choose}
use Rattle.cf_answer.specs.FrontView.{notes_view}
use Rattle.cf_answer.proofs.CheckLemmas.{asked_added}
use Rattle.cf_answer.proofs.check.check_told.Goals as goal

pub returns : goal.returns
returns c =
    let are = rw c.scope-scope.ensures.value at c.in_ok-levels.ensures in
    let branches = ap (map told_branch) c.deref-3.ensures.value in
    IfOk-weaker c.check_asked.result _ _
    (λ a h. asked_added c.args.choose.now (told_choose c.args.info.now) c.in_ok-levels.levels.items are _ _ _ _ _ c.scope-scope.ensures.value
    c.outputs.ensures.value c.deref.ensures.value c.deref-2.ensures.value branches (notes_view c.args.notes.now) _ _ a h) c.check_asked.ensures
