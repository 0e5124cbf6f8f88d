use Rattle.std.proofs.Common.{◌≡◌, ◌∙◌, ◌∷◌, true, false, map, subst, rules}
use Rattle.cf_form.specs.ToldView.{told_choose, truth_at}
use Rattle.cf_tree.specs.ChooseView.{choose_tree}
use Rattle.cf_answer.specs.Branches.{head_of, same_head}
use Rattle.cf_answer.proofs.BranchLemmas.{truths_of}
use Rattle.cf_answer.proofs.HeadLemmas.{IsRightTo, right_stop, right_next}
use Rattle.cf_answer.proofs.verify.wrong_head.Goals as goal

pub returns-then-not-is_head : goal.returns-then-not-is_head
returns-then-not-is_head c =
    let told = map told_choose c.args.told.now in
    let left = truths_of c.loop-choose.coming.left.now in
    let branch = map truth_at c.next-branch.result.now in
    let rest : c.loop-choose.rest.now ≡ c.in-Some.block.now ∷ c.in-Some.behind.now = search rules in
    let wrong : same_head (head_of (choose_tree c.choose-item.result, branch)) c.in-Some.block.now.truths.items ≡ false = search rules in
    right_stop told c.args.chooses.now c.args.blocks.now c.loop-choose.choose-index c.choose-item.result left c.loop-choose-test.true c.choose-item.is
    c.in-Some.block.now c.in-Some.behind.now branch (rw c.loop-choose.invariant.1 at c.next-branch.ensures.truths) wrong
    (subst (λ bs. IsRightTo told c.args.chooses.now c.args.blocks.now c.loop-choose.choose-index left bs) rest c.loop-choose.invariant.0)

pub loop-choose-preserved : goal.loop-choose-preserved
loop-choose-preserved c =
    let told = map told_choose c.args.told.now in
    let left = truths_of c.loop-choose.coming.left.now in
    let behind = truths_of c.next-branch.new.self.left.now in
    let branch = map truth_at c.next-branch.result.now in
    let rest : c.loop-choose.rest.now ≡ c.in-Some.block.now ∷ c.in-Some.behind.now = search rules in
    let right : same_head (head_of (choose_tree c.choose-item.result, branch)) c.in-Some.block.now.truths.items ≡ true = search rules in (
      right_next told c.args.chooses.now c.args.blocks.now c.loop-choose.choose-index c.choose-item.result left c.loop-choose-test.true
          c.choose-item.is c.in-Some.block.now c.in-Some.behind.now branch (rw c.loop-choose.invariant.1 at c.next-branch.ensures.truths) behind
          (rw c.loop-choose.invariant.1 at c.next-branch.ensures.left) right
          (subst (λ bs. IsRightTo told c.args.chooses.now c.args.blocks.now c.loop-choose.choose-index left bs) rest c.loop-choose.invariant.0),
      c.next-branch.ensures.told ∙ c.loop-choose.invariant.1,
    )
