use Rattle.std.proofs.Common.{◌≡◌, take}
use Rattle.cf_linear.specs.Steps.{unknown_part}
use Rattle.cf_linear.proofs.parts.unknown_part.Given as goal

abbrev pub invariant-loop-i : goal.invariant-loop-i
invariant-loop-i l = l.out ≡ unknown_part l.unknown (take l.i l.row)
