use Rattle.std.proofs.Common.{◌||◌, ◌∙◌, sym, ap₂, arith}
use Rattle.cf_form.proofs.TruthSteps.{truth_next}
use Rattle.cf_form.proofs.+has_truth.Goals as goal

pub truths::some_has_truth-loop-part-preserved : goal.truths::some_has_truth-loop-part-preserved
truths::some_has_truth-loop-part-preserved t c =
    let next = truth_next c.args.level c.args.parts.now c.loop-part.part-index _ (omega (arith, c.loop-part-test.true)) c.part-item.is in
    c.either-found.ensures ∙ ap₂ (λ a b. a || b) c.loop-part.invariant c.has_truth-here.ensures ∙ sym next
