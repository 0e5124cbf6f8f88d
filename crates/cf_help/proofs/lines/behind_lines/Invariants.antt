use Rattle.std.proofs.Common.{◌≡◌, length}
use Rattle.cf_help.specs.Lines.{behind_lines}
use Rattle.cf_help.proofs.lines.behind_lines.Given as goal

abbrev pub invariant-loop-byte : goal.invariant-loop-byte
invariant-loop-byte l = behind_lines l.left l.rest ≡ behind_lines l.fn.count l.fn.text

abbrev pub decreases-loop-byte : goal.decreases-loop-byte
decreases-loop-byte l = length l.rest
