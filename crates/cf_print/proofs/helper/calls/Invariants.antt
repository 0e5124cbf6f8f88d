use Rattle.std.proofs.Common.{◌≡◌, length, false}
use Rattle.cf_print.specs.Helpers.{calls_behind}
use Rattle.cf_print.proofs.helper.calls.Given as goal

abbrev pub decreases-loop-byte : goal.decreases-loop-byte
decreases-loop-byte l = length l.rest

abbrev pub invariant-loop-byte : goal.invariant-loop-byte
invariant-loop-byte l = calls_behind l.in_name l.key l.rest ≡ calls_behind false l.key l.text
