use Rattle.std.proofs.Common.{ℕ, List, ◌++◌, length, map}
use Rattle.cf_advice.specs.OrView.{or_tree}
use Rattle.cf_form.specs.ToldView.{told_branch}
use Rattle.cf_answer.specs.Checking.{asked_view}
use Rattle.cf_answer.specs.Checks.{AreOrLines}
use Rattle.cf_answer.proofs.ors.or_lines.Given as goal

abbrev pub decreases-loop-first : goal.decreases-loop-first
decreases-loop-first l = length l.rest

abbrev pub invariant-loop-first : goal.invariant-loop-first
invariant-loop-first l =
    (more : List ℕ) → AreOrLines (asked_view l.asked) (map told_branch l.branches) l.number (map or_tree l.rest) more →
    AreOrLines (asked_view l.asked) (map told_branch l.branches) l.number (map or_tree l.ors) (l.lines.items ++ more)
