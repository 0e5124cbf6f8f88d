use Rattle.cf_tree.specs.RelView.{rel_tree}
use Rattle.cf_warn.proofs.TwiceLaws.{twice_typed, twice_linear, twice_are_outputs}
use Rattle.cf_warn.proofs.two_outputs.ask_twice.Goals as goal

pub ask-asked-requires-clause-typed : goal.ask-asked-requires-clause-typed
ask-asked-requires-clause-typed c =
    let p = c.args.solved.now in
    let s = c.twice_outputs.ensures.solved in
    rw (c.deref-2.ensures.value, c.in_ok-outputs.ensures.bases, c.in_ok-rel.ensures)
    (twice_typed p.scope.items p.outputs.items (rel_tree p.rel) s.typed s.are_outputs c.args.shown)

pub ask-asked-requires-clause-linear : goal.ask-asked-requires-clause-linear
ask-asked-requires-clause-linear c =
    let p = c.args.solved.now in
    let s = c.twice_outputs.ensures.solved in
    rw c.in_ok-rel.ensures (twice_linear p.scope.items p.outputs.items (rel_tree p.rel) s.typed s.are_outputs c.args.shown s.linear)

pub ask-asked-requires-clause-outputs : goal.ask-asked-requires-clause-outputs
ask-asked-requires-clause-outputs c =
    let p = c.args.solved.now in
    let s = c.twice_outputs.ensures.solved in
    rw (c.deref-2.ensures.value, c.in_ok-outputs.ensures.bases) (twice_are_outputs p.scope.items p.outputs.items (rel_tree p.rel) s.typed s.are_outputs)
