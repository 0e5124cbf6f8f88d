use Rattle.std.proofs.Common.{◌≡◌, ◌≤◌, drop, length, false}
use Rattle.cf_formula.specs.SubstitutionView.{pairs_of}
use Rattle.cf_formula.specs.Turns.{subst_rows, rows_pass}
use Rattle.cf_formula.proofs.substitution.put_all.Given as goal

abbrev pub invariant-loop-i : goal.invariant-loop-i
invariant-loop-i l = record {
  place : l.i ≤ length l.replacements;
  value : l.put ≡ subst_rows (pairs_of (drop l.i l.replacements)) l.row;
  fits : rows_pass (pairs_of (drop l.i l.replacements)) l.row ≡ false;
}

abbrev pub decreases-loop-i : goal.decreases-loop-i
decreases-loop-i l = l.i
