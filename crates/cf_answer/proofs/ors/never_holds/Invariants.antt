use Rattle.std.proofs.Common.{length, map}
use Rattle.cf_advice.specs.OrView.{branch_path}
use Rattle.cf_form.specs.ToldView.{told_branch}
use Rattle.cf_answer.specs.Checking.{asked_view}
use Rattle.cf_answer.specs.Tells.{TellsNeverHolds}
use Rattle.cf_answer.proofs.ors.never_holds.Given as goal

abbrev pub decreases-loop-branch : goal.decreases-loop-branch
decreases-loop-branch l = length l.rest

abbrev pub invariant-loop-branch : goal.invariant-loop-branch
invariant-loop-branch l =
    TellsNeverHolds (asked_view l.asked) (map told_branch l.rest) (branch_path l.side) →
    TellsNeverHolds (asked_view l.asked) (map told_branch l.branches) (branch_path l.side)
