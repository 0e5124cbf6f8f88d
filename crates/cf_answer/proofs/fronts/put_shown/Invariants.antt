use Rattle.std.proofs.Common.{◌≡◌, ◌++◌, drop}
use Rattle.cf_help.specs.Lines.{shown}
use Rattle.cf_answer.proofs.fronts.put_shown.Given as goal

abbrev pub invariant-loop-byte : goal.invariant-loop-byte
invariant-loop-byte l = l.text.items ++ shown (drop l.byte-index l.name) ≡ l.fn.text.items ++ shown l.name
