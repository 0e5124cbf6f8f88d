use Rattle.std.proofs.Common.{◌+◌, ◌-◌, length}
use Rattle.cf_linear.proofs.Joining.{Joining}
use Rattle.cf_linear.proofs.row.Row.combine.Given as goal

abbrev pub invariant-loop-i : goal.invariant-loop-i
invariant-loop-i l = Joining l.fn.a l.self l.fn.b l.other l.i l.j l.out

abbrev pub decreases-loop-i : goal.decreases-loop-i
decreases-loop-i l = (length l.self - l.i) + (length l.other - l.j)
