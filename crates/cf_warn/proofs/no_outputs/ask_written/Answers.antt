use Rattle.std.proofs.Common.{◌∙◌}
use Rattle.cf_tree.specs.RelView.{rel_tree}
use Rattle.cf_choose.specs.Laws.{IsUnrefused}
use Rattle.cf_warn.proofs.ExistenceLaws.{written_typed, written_linear, written_outputs}
use Rattle.cf_warn.proofs.no_outputs.ask_written.Goals as goal

pub ask-asked-requires-clause-typed : goal.ask-asked-requires-clause-typed
ask-asked-requires-clause-typed c =
    let p = c.args.solved.now in
    let s = c.outputs.ensures.solved in
    let u : IsUnrefused p.scope.items p.outputs.items (rel_tree p.rel) =
    record { typed = s.typed; linear = s.linear; are_outputs = s.are_outputs; within = s.within } in
    let q = c.in_ok-question.ensures in
    written_typed p.scope.items p.outputs.items (rel_tree p.rel) u _ _ (c.deref.ensures.value ∙ q.outputs) q.rel

pub ask-asked-requires-clause-linear : goal.ask-asked-requires-clause-linear
ask-asked-requires-clause-linear c =
    let p = c.args.solved.now in
    let s = c.outputs.ensures.solved in
    let u : IsUnrefused p.scope.items p.outputs.items (rel_tree p.rel) =
    record { typed = s.typed; linear = s.linear; are_outputs = s.are_outputs; within = s.within } in
    let q = c.in_ok-question.ensures in
    written_linear p.scope.items p.outputs.items (rel_tree p.rel) u _ _ (c.deref.ensures.value ∙ q.outputs) q.rel

pub ask-asked-requires-clause-outputs : goal.ask-asked-requires-clause-outputs
ask-asked-requires-clause-outputs c =
    let p = c.args.solved.now in
    let s = c.outputs.ensures.solved in
    let u : IsUnrefused p.scope.items p.outputs.items (rel_tree p.rel) =
    record { typed = s.typed; linear = s.linear; are_outputs = s.are_outputs; within = s.within } in
    let q = c.in_ok-question.ensures in
    written_outputs p.scope.items p.outputs.items (rel_tree p.rel) u _ _ (c.deref.ensures.value ∙ q.outputs) q.rel
