use Rattle.std.proofs.Common.{◌≡◌, take}
use Rattle.cf_linear.proofs.row.Row.try_copy.Given as goal

abbrev pub invariant-loop-i : goal.invariant-loop-i
invariant-loop-i l = l.out ≡ take l.i l.self
