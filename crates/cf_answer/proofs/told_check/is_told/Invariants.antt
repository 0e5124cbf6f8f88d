use Rattle.std.proofs.Common.{◌≡◌, length, map}
use Rattle.cf_form.specs.ToldView.{told_choose}
use Rattle.cf_answer.specs.ToldChecks.{is_told}
use Rattle.cf_answer.proofs.told_check.is_told.Given as goal

abbrev pub decreases-loop-choose : goal.decreases-loop-choose
decreases-loop-choose l = length l.rest

abbrev pub invariant-loop-choose : goal.invariant-loop-choose
invariant-loop-choose l =
    is_told (map told_choose l.rest) l.number ≡ is_told (map told_choose l.told) l.number
