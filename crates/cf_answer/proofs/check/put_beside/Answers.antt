use Rattle.std.proofs.Common.{map}
use Rattle.std.proofs.lemmas.Result.{on_ok_weaker}
use Rattle.cf_form.specs.ToldView.{told_branch}
use Rattle.cf_answer.specs.Checking.{asked_view}
use Rattle.cf_answer.specs.FrontView.{notes_view}
use Rattle.cf_answer.proofs.BesideLemmas.{beside_added}
use Rattle.cf_answer.proofs.check.put_beside.Goals as goal

pub returns : goal.returns
returns c =
    let first = rw c.deref.ensures.value at c.in_ok-extend_from_slice.ensures.items in
    on_ok_weaker c.put_tuples.result
    (λ h. beside_added (asked_view c.args.asked.now) (map told_branch c.args.branches.now) (notes_view c.args.notes.now) c.args.number c.in_ok-lines.lines.items
    c.in_ok-tuples.tuples _ _ _ c.in_ok-lines.ensures first c.in_ok-tuples.ensures h) c.put_tuples.ensures
