use Rattle.std.proofs.Common.{◌≡◌, drop}
use Rattle.std.specs.Prelude.{flat_map}
use Rattle.cf_io.specs.Bytes.{Owes}
use Rattle.cf_answer.proofs.telling.put.Given as goal

abbrev pub invariant-loop-piece : goal.invariant-loop-piece
invariant-loop-piece g l = record {
  owes : Owes (flat_map (λ piece. piece.now) l.pieces) (g.E.Sink.seen l.fn.err).held (g.E.Sink.seen l.err).held
      (flat_map (λ piece. piece.now) (drop l.piece-index l.pieces));
  same : (g.E.Sink.seen l.err).faults ≡ (g.E.Sink.seen l.fn.err).faults;
}
