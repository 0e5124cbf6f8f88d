use Rattle.std.proofs.Common.{ℕ, List, ◌≡◌, ◌+◌, ◌++◌, length}
use Rattle.cf_answer.specs.Checks.{AllSaid, AreUnreachedLines, unreached_line}
use Rattle.cf_answer.specs.Tells.{TellsUnreached}
use Rattle.cf_answer.proofs.beside.unreached_lines.Given as goal

abbrev pub decreases-loop-class : goal.decreases-loop-class
decreases-loop-class l = length l.rest

abbrev pub invariant-loop-class : goal.invariant-loop-class
invariant-loop-class l =
    (l.arm + length l.rest ≡ length l.classes)
    × ((more : List ℕ) → AllSaid (TellsUnreached l.classes) (λ k c. unreached_line l.number k) l.arm l.rest more →
    AreUnreachedLines l.number l.classes (l.lines.items ++ more))
