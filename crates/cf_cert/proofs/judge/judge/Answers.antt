use Rattle.std.proofs.Common.{◌≡◌, ◌∙◌, true, false, Err, sym, subst}
use Rattle.cf_tree.specs.ChooseView.{choose_tree}
use Rattle.cf_steps.specs.Blocks.{block_tree}
use Rattle.cf_cert.specs.Verifying.{JudgeIs, IsArmed}
use Rattle.cf_cert.proofs.VerdictLaws.{other_number, armed_differs}
use Rattle.cf_cert.proofs.judge.judge.Goals as goal

pub returns-then-block-choose : goal.returns-then-block-choose
returns-then-block-choose c =
    subst (λ f. JudgeIs (choose_tree c.args.choose.now) (block_tree c.args.block.now) (Err f)) (sym c.whole.ensures)
    (other_number (choose_tree c.args.choose.now) (block_tree c.args.block.now) c.if-block-choose.true)

pub returns-in-Ok-false : goal.returns-in-Ok-false
returns-in-Ok-false c =
    let q = choose_tree c.args.choose.now in
    let b = block_tree c.args.block.now in
    subst (λ f. JudgeIs q b (Err f)) (sym c.whole-in-Ok-false.ensures)
    (armed_differs q b c.deref-3.result.now (subst (IsArmed q b) (sym c.deref-3.ensures.value) c.in-Ok.ensures)
    (λ e. let s : false ≡ true = sym c.in-Ok-false.field-0-test ∙ c.in-Ok-false.ensures.1 e in cc))
