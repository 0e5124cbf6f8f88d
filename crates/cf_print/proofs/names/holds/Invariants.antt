use Rattle.std.proofs.Common.{◌≡◌, length}
use Rattle.cf_print.specs.Names.{holds}
use Rattle.cf_print.proofs.names.holds.Given as goal

abbrev pub decreases-loop-byte : goal.decreases-loop-byte
decreases-loop-byte l = length l.rest

abbrev pub invariant-loop-byte : goal.invariant-loop-byte
invariant-loop-byte l = holds l.part l.rest ≡ holds l.part l.text
