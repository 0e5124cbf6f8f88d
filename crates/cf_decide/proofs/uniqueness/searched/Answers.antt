use Rattle.cf_tree.specs.RelView.{rel_tree}
use Rattle.cf_warn.proofs.TwiceLaws.{twice_typed, twice_linear}
use Rattle.cf_decide.proofs.uniqueness.searched.Goals as goal

pub search-found-requires-clause-typed : goal.search-found-requires-clause-typed
search-found-requires-clause-typed c =
    let p = c.args.solved.now in
    let s = c.twice_outputs.ensures.solved in
    rw (c.deref-2.ensures.value, c.in_ok-bases.ensures.bases, c.in_ok-rel.ensures)
    (twice_typed p.scope.items p.outputs.items (rel_tree p.rel) s.typed s.are_outputs c.args.shown)

pub search-found-requires-clause-linear : goal.search-found-requires-clause-linear
search-found-requires-clause-linear c =
    let p = c.args.solved.now in
    let s = c.twice_outputs.ensures.solved in
    rw c.in_ok-rel.ensures (twice_linear p.scope.items p.outputs.items (rel_tree p.rel) s.typed s.are_outputs c.args.shown s.linear)

pub or_others-told-requires-clause-typed : goal.or_others-told-requires-clause-typed
or_others-told-requires-clause-typed c =
    let p = c.args.solved.now in
    let s = c.twice_outputs.ensures.solved in
    rw (c.deref-3.ensures.value, c.in_ok-bases.ensures.bases, c.in_ok-rel.ensures)
    (twice_typed p.scope.items p.outputs.items (rel_tree p.rel) s.typed s.are_outputs c.args.shown)

pub or_others-told-requires-clause-linear : goal.or_others-told-requires-clause-linear
or_others-told-requires-clause-linear c =
    let p = c.args.solved.now in
    let s = c.twice_outputs.ensures.solved in
    rw c.in_ok-rel.ensures (twice_linear p.scope.items p.outputs.items (rel_tree p.rel) s.typed s.are_outputs c.args.shown s.linear)
