use Rattle.std.proofs.Common.{◌≡◌, take}
use Rattle.cf_linear.specs.Steps.{known_part}
use Rattle.cf_linear.proofs.parts.known_part.Given as goal

abbrev pub invariant-loop-i : goal.invariant-loop-i
invariant-loop-i l = l.out ≡ known_part l.unknown (take l.i l.row)
