use Rattle.std.proofs.Common.{◌≡◌, ◌++◌, ◌-◌}
use Rattle.cf_print.specs.Pieces.{repeated}
use Rattle.cf_print.proofs.pieces.put_repeated.Given as goal

abbrev pub invariant-loop-i : goal.invariant-loop-i
invariant-loop-i l = l.out.items ++ repeated (l.count - l.i) l.piece ≡ l.fn.out.items ++ repeated l.count l.piece
