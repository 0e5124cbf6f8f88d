use Rattle.std.proofs.Common.{length, ◌-◌, ◌≤◌, ◌≡◌, take}
use Rattle.std.specs.Io.KnownBytes.{Appends}
use Rattle.cf_io.proofs.write.write_all.Given as goal

abbrev pub invariant-loop-at : goal.invariant-loop-at
invariant-loop-at g l = record {
  within : l.at ≤ length l.bytes;
  took : Appends (g.O.Sink.seen l.fn.out).held (g.O.Sink.seen l.out).held (take l.at l.bytes);
  same : (g.O.Sink.seen l.out).faults ≡ (g.O.Sink.seen l.fn.out).faults;
}

abbrev pub decreases-loop-at : goal.decreases-loop-at
decreases-loop-at g l = length l.bytes - l.at
