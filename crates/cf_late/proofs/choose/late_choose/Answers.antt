use Rattle.std.proofs.Common.{Ok}
use Rattle.cf_tree.specs.RelView.{rel_tree}
use Rattle.cf_eval.specs.Seen.{plains}
use Rattle.cf_late.proofs.ChooseLaws.{known_typed, known_linear}
use Rattle.cf_late.proofs.choose.late_choose.Goals as goal

pub solve-solved-requires-clause-typed : goal.solve-solved-requires-clause-typed
solve-solved-requires-clause-typed c =
    known_typed c.args.scope.now c.args.outputs.now (rel_tree c.args.rel.now) (plains c.args.values.now) (Ok c.in_ok-known.known) c.requires.late
    c.requires.fit c.in_ok-known.ensures

pub solve-solved-requires-clause-linear : goal.solve-solved-requires-clause-linear
solve-solved-requires-clause-linear c =
    known_linear c.args.scope.now c.args.outputs.now (rel_tree c.args.rel.now) (plains c.args.values.now) (Ok c.in_ok-known.known) c.requires.late
    c.in_ok-known.ensures
