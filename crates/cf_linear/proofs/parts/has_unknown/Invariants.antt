use Rattle.std.proofs.Common.{◌≡◌, drop}
use Rattle.cf_linear.specs.Steps.{has_unknown}
use Rattle.cf_linear.proofs.parts.has_unknown.Given as goal

abbrev pub invariant-loop-i : goal.invariant-loop-i
invariant-loop-i l = has_unknown l.unknown l.row ≡ has_unknown l.unknown (drop l.i l.row)
