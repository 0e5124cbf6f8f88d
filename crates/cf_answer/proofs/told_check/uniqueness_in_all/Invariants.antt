use Rattle.std.proofs.Common.{length, map}
use Rattle.cf_form.specs.ToldView.{told_branch}
use Rattle.cf_warn.specs.declared.answer.UniquenessAnswer.{UniquenessAnswer}
use Rattle.cf_warn.specs.declared.answer.UniquenessAnswer.TheVariants.{Unique}
use Rattle.cf_answer.specs.Checking.{asked_view}
use Rattle.cf_form.specs.Told.{HoldsCondition}
use Rattle.cf_answer.specs.Tells.{TellsUniquenessIn}
use Rattle.cf_answer.specs.ToldChecks.{ComeTo, first_uniqueness}
use Rattle.cf_answer.proofs.told_check.uniqueness_in_all.Given as goal

abbrev pub decreases-loop-branch : goal.decreases-loop-branch
decreases-loop-branch l = length l.rest

abbrev pub invariant-loop-branch : goal.invariant-loop-branch
invariant-loop-branch l =
    (all : UniquenessAnswer) → ComeTo (λ b u. HoldsCondition b → TellsUniquenessIn (asked_view l.asked) b u) first_uniqueness l.answer (map told_branch l.rest)
    all →
    ComeTo (λ b u. HoldsCondition b → TellsUniquenessIn (asked_view l.asked) b u) first_uniqueness Unique (map told_branch l.branches) all
