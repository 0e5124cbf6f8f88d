use Rattle.std.proofs.Common.{◌≡◌, ℕ, None}
use Rattle.cf_answer.specs.Steps.{replier_of, IsReadTo}
use Rattle.cf_answer.proofs.input.answer_all.Given as goal

abbrev pub invariant-pieces : goal.invariant-pieces
invariant-pieces g l = record {
  read : (total : ℕ) × IsReadTo (replier_of l.replier) None (g.I.Source.seen l.fn.input).left (g.I.Source.seen l.input).left l.cutter
      (g.O.Sink.seen l.fn.out).held (g.O.Sink.seen l.out).held total;
  inputs : (g.I.Source.seen l.input).faults ≡ (g.I.Source.seen l.fn.input).faults;
  outs : (g.O.Sink.seen l.out).faults ≡ (g.O.Sink.seen l.fn.out).faults;
  ends : (g.I.Source.seen l.input).ends ≡ (g.I.Source.seen l.fn.input).ends;
}
