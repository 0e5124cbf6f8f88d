use Rattle.std.proofs.Common.{◌≡◌, ◌≤◌, drop, length, pos}
use Rattle.cf_num.specs.Limit.{IsWithin}
use Rattle.cf_program.specs.Lowered.{divisor}
use Rattle.cf_match.proofs.class.divisor.Given as goal

abbrev pub invariant-loop-i : goal.invariant-loop-i
invariant-loop-i l = record {
  place : l.i ≤ length l.factors;
  fits : IsWithin l.g;
  value : l.g ≡ pos (divisor (drop l.i l.factors));
}

abbrev pub decreases-loop-i : goal.decreases-loop-i
decreases-loop-i l = l.i
