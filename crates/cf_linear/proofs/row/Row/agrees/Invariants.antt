use Rattle.std.proofs.Common.{◌≡◌, drop}
use Rattle.cf_linear.specs.Rows.{same_row}
use Rattle.cf_linear.proofs.row.Row.agrees.Given as goal

abbrev pub invariant-loop-i : goal.invariant-loop-i
invariant-loop-i l = same_row l.self l.other ≡ same_row (drop l.i l.self) (drop l.i l.other)
