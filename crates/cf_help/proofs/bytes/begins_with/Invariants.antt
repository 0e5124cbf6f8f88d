use Rattle.std.proofs.Common.{◌≡◌, length}
use Rattle.cf_help.specs.BadBytes.{begins_with}
use Rattle.cf_help.proofs.bytes.begins_with.Given as goal

abbrev pub invariant-loop-a : goal.invariant-loop-a
invariant-loop-a l = begins_with l.left l.rest ≡ begins_with l.fn.front l.fn.bytes

abbrev pub decreases-loop-a : goal.decreases-loop-a
decreases-loop-a l = length l.left
