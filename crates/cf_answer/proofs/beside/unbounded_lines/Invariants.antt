use Rattle.std.proofs.Common.{ℕ, List, ◌++◌, length, map}
use Rattle.cf_form.specs.ToldView.{told_branch}
use Rattle.cf_answer.specs.Checking.{asked_view}
use Rattle.cf_answer.specs.Checks.{AllSaid, AreUnboundedLines, unbounded_line}
use Rattle.cf_answer.specs.Tells.{TellsUnbounded}
use Rattle.cf_answer.proofs.beside.unbounded_lines.Given as goal

abbrev pub decreases-loop-name : goal.decreases-loop-name
decreases-loop-name l = length l.rest

abbrev pub invariant-loop-name : goal.invariant-loop-name
invariant-loop-name l =
    (more : List ℕ) → AllSaid (λ k name. TellsUnbounded (asked_view l.asked) (map told_branch l.branches) k) (λ k name. unbounded_line l.number name) l.output
    l.rest more → AreUnboundedLines (asked_view l.asked) (map told_branch l.branches) l.number l.names (l.lines.items ++ more)
