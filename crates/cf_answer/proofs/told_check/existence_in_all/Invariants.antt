use Rattle.std.proofs.Common.{length, map}
use Rattle.cf_form.specs.ToldView.{told_branch}
use Rattle.cf_warn.specs.declared.answer.ExistenceAnswer.{ExistenceAnswer}
use Rattle.cf_warn.specs.declared.answer.ExistenceAnswer.TheVariants.{Always}
use Rattle.cf_answer.specs.Checking.{asked_view}
use Rattle.cf_answer.specs.Tells.{TellsExistenceIn}
use Rattle.cf_answer.specs.ToldChecks.{ComeTo, first_existence}
use Rattle.cf_answer.proofs.told_check.existence_in_all.Given as goal

abbrev pub decreases-loop-branch : goal.decreases-loop-branch
decreases-loop-branch l = length l.rest

abbrev pub invariant-loop-branch : goal.invariant-loop-branch
invariant-loop-branch l =
    (all : ExistenceAnswer) → ComeTo (TellsExistenceIn (asked_view l.asked)) first_existence l.answer (map told_branch l.rest) all →
    ComeTo (TellsExistenceIn (asked_view l.asked)) first_existence Always (map told_branch l.branches) all
