use Rattle.std.proofs.Common.{◌≡◌, take}
use Rattle.cf_linear.specs.Rows.{without}
use Rattle.cf_linear.proofs.row.Row.without.Given as goal

abbrev pub invariant-loop-i : goal.invariant-loop-i
invariant-loop-i l = l.out ≡ without l.column (take l.i l.self)
