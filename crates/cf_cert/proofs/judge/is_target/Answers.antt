use Rattle.std.proofs.Common.{◌∙◌, sym}
use Rattle.std.proofs.lemmas.Result.{IfOk-weaker}
use Rattle.cf_tree.specs.CodeTree.{code_solve}
use Rattle.cf_tree.specs.CodeView.{arm_trees}
use Rattle.cf_tree.specs.ChooseView.{choose_tree}
use Rattle.cf_tree.proofs.BaseLemmas.{same_bases_is}
use Rattle.cf_cert.proofs.VerdictLaws.{other_bases, never_target, target_by_code}
use Rattle.cf_cert.proofs.judge.is_target.Goals as goal

pub returns-then-not-same_bases : goal.returns-then-not-same_bases
returns-then-not-same_bases c =
    never_target c.args.target.now (choose_tree c.args.choose.now) (code_solve c.args.choose.now.number (arm_trees c.args.arms.now))
    (λ p r. other_bases _ _ (sym c.same_bases.ensures ∙ c.if-not-same_bases.true) (c.deref.ensures.value ∙ p ∙ sym c.requires))

pub returns-then-not-same_bases-2 : goal.returns-then-not-same_bases-2
returns-then-not-same_bases-2 c =
    never_target c.args.target.now (choose_tree c.args.choose.now) (code_solve c.args.choose.now.number (arm_trees c.args.arms.now))
    (λ p r. other_bases _ _ (sym c.same_bases-2.ensures ∙ c.if-not-same_bases-2.true) (c.deref-2.ensures.value ∙ r))

pub returns : goal.returns
returns c =
    let p = sym c.deref.ensures.value ∙ same_bases_is _ _ (sym c.same_bases.ensures ∙ c.if-not-same_bases.false) ∙ c.requires in
    let r = sym c.deref-2.ensures.value ∙ same_bases_is _ _ (sym c.same_bases-2.ensures ∙ c.if-not-same_bases-2.false) in
    IfOk-weaker c.is_solve.result _ _
    (λ b h. target_by_code c.args.target.now (choose_tree c.args.choose.now) (code_solve c.args.choose.now.number (arm_trees c.args.arms.now)) b p r h)
    c.is_solve.ensures
