use Rattle.cf_warn.proofs.ClassLaws.{covered_typed, covered_linear}
use Rattle.cf_warn.proofs.coverage.of_question.Goals as goal

pub solve-requires-clause-typed : goal.solve-requires-clause-typed
solve-requires-clause-typed c = rw c.requires.rel (covered_typed c.args.classes.now c.requires.classes.each)

pub solve-requires-clause-linear : goal.solve-requires-clause-linear
solve-requires-clause-linear c = rw c.requires.rel (covered_linear c.args.classes.now)

pub answer-requires-clause-exists : goal.answer-requires-clause-exists
answer-requires-clause-exists c =
    let s = rw c.requires.rel at c.in-Ok.ensures in (
      rw (s.same_scope, s.same_outputs, s.same_relation) at s.solved.within,
      rw (s.same_scope, s.same_outputs, s.same_relation) at c.in_ok-exists-in-Ok.ensures,
    )
