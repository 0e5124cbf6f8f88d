use Rattle.std.proofs.Common.{◌≡◌, ◌≤◌, [], take}
use Rattle.cf_cert.specs.Counting.{repeats}
use Rattle.cf_cert.proofs.counting.repeats.Given as goal

abbrev pub invariant-loop-i : goal.invariant-loop-i
invariant-loop-i l = record {
  value : l.number ≡ repeats l.unknown [] (take l.i l.rows);
  low : l.number ≤ l.i;
}
