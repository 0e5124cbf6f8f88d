use Rattle.std.proofs.Common.{◌≡◌, true, sym, subst, rules}
use Rattle.std.specs.Prelude.{◌==◌, map}
use Rattle.cf_form.specs.ToldView.{told_choose}
use Rattle.cf_answer.specs.Branches.{branches_of}
use Rattle.cf_answer.proofs.BranchLemmas.{truths_of, found_here}
use Rattle.cf_answer.proofs.branches.branches_of.Goals as goal

pub returns-then-choose-number : goal.returns-then-choose-number
returns-then-choose-number c =
    let same : (c.index-told-i.result.number == c.args.number) ≡ true = search rules in
    subst (λ bs. truths_of bs ≡ branches_of (map told_choose c.args.told.now) c.args.number) (sym c.deref.ensures.value)
    (found_here c.args.told.now c.args.number c.loop-i.i c.index-told-i.result c.loop-i-test.true c.index-told-i.is same c.loop-i.invariant)
