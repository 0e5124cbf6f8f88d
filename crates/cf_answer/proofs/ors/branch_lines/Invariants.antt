use Rattle.std.proofs.Common.{ℕ, List, ◌++◌, length, map}
use Rattle.cf_advice.specs.OrView.{branch_path}
use Rattle.cf_form.specs.ToldView.{told_branch}
use Rattle.cf_answer.specs.Checking.{asked_view}
use Rattle.cf_answer.specs.Checks.{AllSaid, AreBranchLines, branch_line}
use Rattle.cf_answer.specs.Tells.{TellsNeverHolds}
use Rattle.cf_answer.proofs.ors.branch_lines.Given as goal

abbrev pub decreases-loop-side : goal.decreases-loop-side
decreases-loop-side l = length l.rest

abbrev pub invariant-loop-side : goal.invariant-loop-side
invariant-loop-side l =
    (more : List ℕ) → AllSaid (λ k path. TellsNeverHolds (asked_view l.asked) (map told_branch l.branches) path) (λ k path. branch_line l.number l.place k) l.index
    (map branch_path l.rest) more → AreBranchLines (asked_view l.asked) (map told_branch l.branches) l.number
    (record { place = l.place; branches = map branch_path l.sides }) (l.lines.items ++ more)
