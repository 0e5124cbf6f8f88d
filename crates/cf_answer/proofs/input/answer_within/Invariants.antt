use Rattle.std.proofs.Common.{◌≡◌, ◌-◌, ◌+◌, ◌≤◌, Some}
use Rattle.cf_answer.specs.Steps.{replier_of, IsReadTo}
use Rattle.cf_answer.proofs.input.answer_within.Given as goal

abbrev pub invariant-pieces : goal.invariant-pieces
invariant-pieces g l = record {
  within : l.total ≤ l.limit + 1;
  read : IsReadTo (replier_of l.replier) (Some l.limit) (g.I.Source.seen l.fn.input).left (g.I.Source.seen l.input).left l.cutter
      (g.O.Sink.seen l.fn.out).held (g.O.Sink.seen l.out).held l.total;
  inputs : (g.I.Source.seen l.input).faults ≡ (g.I.Source.seen l.fn.input).faults;
  outs : (g.O.Sink.seen l.out).faults ≡ (g.O.Sink.seen l.fn.out).faults;
  given : (g.I.Source.seen l.input).given ≤ (g.I.Source.seen l.fn.input).given + l.total;
  ends : (g.I.Source.seen l.input).ends ≡ (g.I.Source.seen l.fn.input).ends;
}

abbrev pub decreases-pieces : goal.decreases-pieces
decreases-pieces g l = l.limit + 1 - l.total
