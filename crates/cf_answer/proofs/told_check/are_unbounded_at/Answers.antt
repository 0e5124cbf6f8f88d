use Rattle.std.proofs.Common.{◌≡◌, ◌∷◌, [], rules}
use Rattle.std.proofs.lemmas.List.{nil_from_length}
use Rattle.cf_advice.specs.Bounds.{IsUnbounded}
use Rattle.cf_form.specs.ToldView.{told_branch}
use Rattle.cf_answer.proofs.BesideLemmas.{all_end, all_more}
use Rattle.cf_answer.proofs.told_check.are_unbounded_at.Goals as goal

pub loop-branch-preserved : goal.loop-branch-preserved
loop-branch-preserved c =
    let opened : c.loop-branch.rest.now ≡ c.in-Some.branch.now ∷ c.in-Some.more.now = search rules in
    λ more. c.loop-branch.invariant
    (all_more (λ b. IsUnbounded c.args.level b.relation) told_branch c.loop-branch.rest.now c.in-Some.branch.now c.in-Some.more.now opened
    (c.nothing_bounds.ensures c.if-not-nothing_bounds.false) more)

pub returns : goal.returns
returns c =
    let ended : c.loop-branch.rest.now ≡ [] = nil_from_length c.loop-branch.rest.now (search rules) in
    λ e. c.loop-branch.invariant (all_end (λ b. IsUnbounded c.args.level b.relation) told_branch c.loop-branch.rest.now ended)
