use Rattle.std.proofs.Common.{◌≡◌, ◌≤◌, drop, unsigned_abs}
use Rattle.cf_program.specs.Walk.{sum_with}
use Rattle.cf_type.specs.Sums.{sum_of}
use Rattle.cf_type.proofs.sums.total.Given as goal

abbrev pub invariant-loop-k : goal.invariant-loop-k
invariant-loop-k l =
    (sum_with (sum_of l.sum) (drop l.k-index l.more) ≡ sum_with l.first l.more) × (unsigned_abs l.sum.turns ≤ l.k-index)
