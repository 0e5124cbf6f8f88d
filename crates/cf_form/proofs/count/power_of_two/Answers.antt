use Rattle.cf_form.proofs.CountLaws.{power_next}
use Rattle.std.proofs.Common.{◌∙◌}
use Rattle.cf_form.proofs.count.power_of_two.Goals as goal

pub loop-step-preserved : goal.loop-step-preserved
loop-step-preserved c = c.saturating_mul-power.ensures ∙ power_next c.loop-step._step c.loop-step.power c.loop-step.invariant
