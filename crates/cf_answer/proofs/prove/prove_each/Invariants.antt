use Rattle.std.proofs.Common.{◌≡◌, map}
use Rattle.cf_form.specs.ToldView.{told_choose}
use Rattle.cf_answer.proofs.BlockLemmas.{PutTo}
use Rattle.cf_answer.proofs.BranchLemmas.{truths_of}
use Rattle.cf_answer.proofs.prove.prove_each.Given as goal

abbrev pub invariant-loop-i : goal.invariant-loop-i
invariant-loop-i l =
    PutTo (map told_choose l.told) l.chooses l.i (truths_of l.coming.left.now) l.text.items × (l.coming.told.now ≡ l.told)
