use Rattle.std.proofs.Common.{◌≡◌, take}
use Rattle.cf_linear.specs.RowParts.{divided_by}
use Rattle.cf_linear.proofs.parts.divided.Given as goal

abbrev pub invariant-loop-i : goal.invariant-loop-i
invariant-loop-i l = l.out ≡ divided_by l.g (take l.i l.row)
