use Rattle.std.proofs.Common.{◌≡◌, ◌-◌, drop}
use Rattle.cf_linear.specs.Rows.{same_row}
use Rattle.cf_formula.proofs.key.agrees_from.Given as goal

abbrev pub invariant-loop-i : goal.invariant-loop-i
invariant-loop-i l = same_row (drop l.start l.row) l.wanted ≡ same_row (drop l.i l.row) (drop (l.i - l.start) l.wanted)
