use Rattle.std.proofs.Common.{◌∙◌, arith}
use Rattle.cf_form.proofs.CountLaws.{product_next}
use Rattle.cf_form.proofs.+count.Goals as goal

pub count::product-loop-part-preserved : goal.count::product-loop-part-preserved
count::product-loop-part-preserved t c =
    c.saturating_mul-product.ensures
    ∙ product_next c.args.parts.now c.loop-part.part-index _ c.loop-part.product _ (omega (arith, c.loop-part-test.true)) c.part-item.is
    c.loop-part.invariant c.count-count.ensures
