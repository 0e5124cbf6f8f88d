use Rattle.std.proofs.Common.{◌≡◌, drop}
use Rattle.cf_linear.specs.RowParts.{divides_known}
use Rattle.cf_linear.proofs.parts.divides_known.Given as goal

abbrev pub invariant-loop-i : goal.invariant-loop-i
invariant-loop-i l = divides_known l.g l.row ≡ divides_known l.g (drop l.i l.row)
