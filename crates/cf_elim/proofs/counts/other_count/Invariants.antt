use Rattle.std.proofs.Common.{◌≡◌, ◌==◌, not, take, length, ◌≤◌}
use Rattle.std.specs.Prelude.{filter}
use Rattle.cf_elim.proofs.counts.other_count.Given as goal

abbrev pub invariant-loop-c : goal.invariant-loop-c
invariant-loop-c l = record {
  count : l.n ≡ length (filter (λ w. not (w == l.u)) (take l.c-index l.columns));
  low : l.n ≤ l.c-index;
}
