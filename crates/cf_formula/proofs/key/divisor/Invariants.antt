use Rattle.std.proofs.Common.{◌≡◌, ◌≤◌, drop, length, pos}
use Rattle.cf_num.specs.Limit.{IsWithin}
use Rattle.cf_linear.specs.Steps.{common}
use Rattle.cf_formula.proofs.key.divisor.Given as goal

abbrev pub invariant-loop-i : goal.invariant-loop-i
invariant-loop-i l = record {
  begin : l.start ≤ l.i;
  place : l.i ≤ length l.row;
  fits : IsWithin l.g;
  value : l.g ≡ pos (common (drop l.i l.row));
}

abbrev pub decreases-loop-i : goal.decreases-loop-i
decreases-loop-i l = l.i
