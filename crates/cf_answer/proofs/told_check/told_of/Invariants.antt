use Rattle.std.proofs.Common.{◌≡◌, length, map}
use Rattle.cf_form.specs.ToldView.{told_choose}
use Rattle.cf_answer.specs.ToldChecks.{told_of}
use Rattle.cf_answer.proofs.told_check.told_of.Given as goal

abbrev pub decreases-loop-choose : goal.decreases-loop-choose
decreases-loop-choose l = length l.rest

abbrev pub invariant-loop-choose : goal.invariant-loop-choose
invariant-loop-choose l =
    told_of (map told_choose l.rest) l.number ≡ told_of (map told_choose l.told) l.number
