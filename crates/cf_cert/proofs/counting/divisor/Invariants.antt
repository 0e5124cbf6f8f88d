use Rattle.std.proofs.Common.{◌≡◌, ◌≤◌, drop, length, pos}
use Rattle.cf_num.specs.Limit.{IsWithin}
use Rattle.cf_linear.specs.Steps.{unknown_part, common}
use Rattle.cf_cert.proofs.counting.divisor.Given as goal

abbrev pub invariant-loop-i : goal.invariant-loop-i
invariant-loop-i l = record {
  place : l.i ≤ length l.row;
  fits : IsWithin l.g;
  value : l.g ≡ pos (common (unknown_part l.unknown (drop l.i l.row)));
}

abbrev pub decreases-loop-i : goal.decreases-loop-i
decreases-loop-i l = l.i
