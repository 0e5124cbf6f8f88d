use Rattle.std.proofs.Common.{◌≡◌, ◌++◌, drop}
use Rattle.std.specs.Prelude.{flat_map}
use Rattle.cf_print.proofs.pieces.put_pieces.Given as goal

abbrev pub invariant-loop-piece : goal.invariant-loop-piece
invariant-loop-piece l =
    l.out.items ++ flat_map (λ piece. piece.now) (drop l.piece-index l.pieces) ≡ l.fn.out.items ++ flat_map (λ piece. piece.now) l.pieces
