use Rattle.cf_form.specs.ToldView.{told_branch}
use Rattle.cf_answer.specs.Checking.{asked_view}
use Rattle.cf_answer.proofs.BranchTellLemmas.{uniqueness_told}
use Rattle.cf_answer.proofs.told_check.uniqueness_in.Goals as goal

pub returns-then-is_of_two : goal.returns-then-is_of_two
returns-then-is_of_two c =
    λ holds. uniqueness_told (asked_view c.args.asked.now) (told_branch c.args.branch.now) (c.fits.ensures c.if-not-fits.false) holds c.in_ok-answer.answer
    (c.is_of_two.ensures c.if-is_of_two.true) c.in_ok-answer.ensures
