use Rattle.std.proofs.Common.{◌≡◌, true, false, rules, sym, ◌∙◌}
use Rattle.std.proofs.lemmas.Result.{IfOk-weaker}
use Rattle.cf_tree.specs.CodeView.{code_tree}
use Rattle.cf_stmt.specs.BlockView.{block_tree}
use Rattle.cf_stmt.specs.Fitting.{fits, plain}
use Rattle.cf_stmt.specs.Made.{block_at}
use Rattle.cf_stmt.specs.SumView.{IsMore}
use Rattle.cf_stmt.proofs.MadeLaws.{whole_at}
use Rattle.cf_stmt.proofs.SumSteps.{more_bound}
use Rattle.cf_stmt.proofs.walk.+walk.Goals as goal

pub sum_more-returns : goal.sum_more-returns
sum_more-returns t c =
    let differs : fits 1 (code_tree c.args.code.now) ≡ false = search rules in
    IfOk-weaker c.add_block.result _ (λ s. IsMore (code_tree c.args.code.now) c.args.sum s)
    (λ s h. more_bound c.args.sum s c.in_ok-add_u32.field-0 (code_tree c.args.code.now) (block_tree c.in_ok-block.block.value) differs
    c.in_ok-add_u32.ensures c.in_ok-block.ensures h) c.add_block.ensures

pub choice-returns-then-fits : goal.choice-returns-then-fits
choice-returns-then-fits t c =
    let whole : fits 0 (code_tree c.args.code.now) ≡ true = search rules in
    IfOk-weaker c.give.result _ (λ b. block_tree b.value ≡ block_at plain c.args.n (code_tree c.args.code.now))
    (λ b h. h ∙ sym (whole_at c.args.n (code_tree c.args.code.now) whole)) c.give.ensures

pub operation-returns-then-fits : goal.operation-returns-then-fits
operation-returns-then-fits t c =
    let whole : fits 0 (code_tree c.args.code.now) ≡ true = search rules in
    IfOk-weaker c.give.result _ (λ b. block_tree b.value ≡ block_at plain c.args.n (code_tree c.args.code.now))
    (λ b h. h ∙ sym (whole_at c.args.n (code_tree c.args.code.now) whole)) c.give.ensures

pub operation_in_order-returns-then-fits : goal.operation_in_order-returns-then-fits
operation_in_order-returns-then-fits t c =
    let whole : fits 0 (code_tree c.args.code.now) ≡ true = search rules in
    IfOk-weaker c.give.result _ (λ b. block_tree b.value ≡ block_at plain c.args.n (code_tree c.args.code.now))
    (λ b h. h ∙ sym (whole_at c.args.n (code_tree c.args.code.now) whole)) c.give.ensures
