use Rattle.std.proofs.Common.{◌∙◌}
use Rattle.cf_tree.specs.RelView.{rel_tree}
use Rattle.cf_choose.specs.Laws.{IsUnrefused}
use Rattle.cf_warn.proofs.ExistenceLaws.{written_typed, written_linear}
use Rattle.cf_decide.proofs.existence.searched.Goals as goal

pub search-found-requires-clause-typed : goal.search-found-requires-clause-typed
search-found-requires-clause-typed c =
    let p = c.args.solved.now in
    let s = c.outputs.ensures.solved in
    let u : IsUnrefused p.scope.items p.outputs.items (rel_tree p.rel) =
    record { typed = s.typed; linear = s.linear; are_outputs = s.are_outputs; within = s.within } in
    let q = c.in_ok-question.ensures in
    written_typed p.scope.items p.outputs.items (rel_tree p.rel) u _ _ (c.deref.ensures.value ∙ q.outputs) q.rel

pub search-found-requires-clause-linear : goal.search-found-requires-clause-linear
search-found-requires-clause-linear c =
    let p = c.args.solved.now in
    let s = c.outputs.ensures.solved in
    let u : IsUnrefused p.scope.items p.outputs.items (rel_tree p.rel) =
    record { typed = s.typed; linear = s.linear; are_outputs = s.are_outputs; within = s.within } in
    let q = c.in_ok-question.ensures in
    written_linear p.scope.items p.outputs.items (rel_tree p.rel) u _ _ (c.deref.ensures.value ∙ q.outputs) q.rel
