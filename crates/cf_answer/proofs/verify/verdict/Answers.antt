use Rattle.std.proofs.Common.{◌≡◌, ◌∙◌, [], None, ap, map, sym}
use Rattle.std.proofs.lemmas.Result.{IfOk-weaker}
use Rattle.cf_form.specs.ToldView.{told_choose}
use Rattle.cf_steps.specs.Blocks.{block_tree, block_trees}
use Rattle.cf_tree.specs.ChooseView.{choose_tree}
use Rattle.cf_answer.specs.Branches.{in_branches, wrong_head}
use Rattle.cf_answer.proofs.VerifyLemmas.{right_verdict}
use Rattle.cf_answer.proofs.verify.verdict.Goals as goal

pub returns-in-None : goal.returns-in-None
returns-in-None c =
    let told = map told_choose c.args.told.now in
    let qs = map choose_tree c.args.chooses.now in
    let bs = block_trees c.args.blocks.now in
    let none : wrong_head (in_branches told [] qs) bs ≡ None =
    ap (λ xs. wrong_head (in_branches told [] qs) (map block_tree xs)) (sym c.deref.ensures.value) ∙ sym c.wrong_head.ensures ∙ c.in-None.is in
    IfOk-weaker c.verify.result _ _ (λ v h. right_verdict told qs bs v none h) c.verify.ensures.verdict
