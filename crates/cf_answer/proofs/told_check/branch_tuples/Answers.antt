use Rattle.std.proofs.Common.{◌∙◌, refl}
use Rattle.std.proofs.lemmas.Result.{IfOk-weaker}
use Rattle.cf_answer.proofs.told_check.branch_tuples.Goals as goal

pub returns-in-Ok : goal.returns-in-Ok
returns-in-Ok c =
    let of = c.in-Ok.ensures in
    IfOk-weaker c.tuple_count.result _ _ (λ n h. h ∙ rw (of.same_scope, of.same_outputs, of.same_relation) refl) c.tuple_count.ensures
