use Rattle.std.proofs.Common.{◌∙◌, arith}
use Rattle.std.proofs.lemmas.List.{take_all}
use Rattle.cf_late.proofs.Loops.{copy_next}
use Rattle.cf_late.proofs.values.copies.Goals as goal

pub loop-value-preserved : goal.loop-value-preserved
loop-value-preserved c =
    copy_next c.args.values.now c.loop-value.value-index c.value-item.result _ _ _ (omega arith) c.value-item.is c.in_ok-copy.ensures
    c.in_ok-push.ensures.items c.loop-value.invariant

pub returns : goal.returns
returns c = c.loop-value.invariant ∙ take_all c.loop-value.value-index c.args.values.now (omega (arith, c.loop-value-test.false))
