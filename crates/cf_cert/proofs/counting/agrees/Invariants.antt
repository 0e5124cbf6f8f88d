use Rattle.std.proofs.Common.{◌≡◌, drop}
use Rattle.cf_cert.specs.Counting.{agrees}
use Rattle.cf_cert.proofs.counting.agrees.Given as goal

abbrev pub invariant-loop-i : goal.invariant-loop-i
invariant-loop-i l = agrees l.g l.h l.second l.first ≡ agrees l.g l.h l.second (drop l.i l.first)
