use Rattle.std.proofs.Common.{◌≡◌, ◌∷◌, [], rules}
use Rattle.std.proofs.lemmas.List.{nil_from_length}
use Rattle.cf_advice.specs.OrView.{branch_path}
use Rattle.cf_form.specs.ToldView.{told_branch}
use Rattle.cf_answer.specs.Checking.{asked_view}
use Rattle.cf_answer.specs.Tells.{NeverHoldsAt}
use Rattle.cf_answer.proofs.BesideLemmas.{all_end, all_more}
use Rattle.cf_answer.proofs.ors.never_holds.Goals as goal

pub loop-branch-preserved : goal.loop-branch-preserved
loop-branch-preserved c =
    let asked = asked_view c.args.asked.now in
    let opened : c.loop-branch.rest.now ≡ c.in-Some.branch.now ∷ c.in-Some.more.now = search rules in
    λ more. c.loop-branch.invariant
    (all_more (NeverHoldsAt asked (branch_path c.args.side.now)) told_branch c.loop-branch.rest.now c.in-Some.branch.now c.in-Some.more.now opened
    (c.in_ok-never.ensures c.if-not-never.false) more)

pub returns : goal.returns
returns c =
    let ended : c.loop-branch.rest.now ≡ [] = nil_from_length c.loop-branch.rest.now (search rules) in
    λ e. c.loop-branch.invariant
    (all_end (NeverHoldsAt (asked_view c.args.asked.now) (branch_path c.args.side.now)) told_branch c.loop-branch.rest.now ended)
