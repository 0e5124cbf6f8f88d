use Rattle.std.proofs.Common.{◌≡◌, ◌++◌, drop}
use Rattle.cf_answer.specs.Fronts.{fronted}
use Rattle.cf_answer.proofs.FrontLaws.{rest_of}
use Rattle.cf_answer.proofs.fronts.put_fronted.Given as goal

abbrev pub invariant-loop-byte : goal.invariant-loop-byte
invariant-loop-byte l = l.text.items ++ rest_of l.begins l.front (drop l.byte-index l.lines) ≡ l.fn.text.items ++ fronted l.front l.lines
