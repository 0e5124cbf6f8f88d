use Rattle.std.proofs.Common.{arith}
use Rattle.cf_io.proofs.LineLemmas.{rest_from-last}
use Rattle.cf_io.proofs.segments.last_start.Goals as goal

pub returns-then-piece-at-eq10-clause-rest : goal.returns-then-piece-at-eq10-clause-rest
returns-then-piece-at-eq10-clause-rest c =
    rest_from-last c.args.piece.now c.back.at (omega arith) c.back.invariant.within c.if-piece-at-eq10.true c.back.invariant.rest
