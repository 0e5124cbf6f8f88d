use Rattle.std.proofs.Common.{◌≡◌, map}
use Rattle.cf_form.specs.ToldView.{told_choose}
use Rattle.cf_answer.proofs.BranchLemmas.{truths_of}
use Rattle.cf_answer.proofs.HeadLemmas.{IsRightTo}
use Rattle.cf_answer.proofs.verify.wrong_head.Given as goal

abbrev pub invariant-loop-choose : goal.invariant-loop-choose
invariant-loop-choose l =
    IsRightTo (map told_choose l.told) l.chooses l.blocks l.choose-index (truths_of l.coming.left.now) l.rest × (l.coming.told.now ≡ l.told)
