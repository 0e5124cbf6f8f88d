use Rattle.std.proofs.Common.{◌≡◌, ℕ, ◌≤◌, List, ◌++◌, length, drop}
use Rattle.cf_io.specs.Segments.{rest_from}
use Rattle.cf_io.proofs.segments.last_start.Given as goal

abbrev pub invariant-back : goal.invariant-back
invariant-back l = record {
  within : l.at ≤ length l.piece;
  rest : (w : List ℕ) → rest_from w (drop l.at l.piece) ≡ w ++ drop l.at l.piece;
}

abbrev pub decreases-back : goal.decreases-back
decreases-back l = l.at
