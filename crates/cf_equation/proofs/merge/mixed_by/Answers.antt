use Rattle.std.proofs.lemmas.Result.{IfOk-weaker}
use Rattle.cf_equation.proofs.merge.mixed_by.Goals as goal

pub returns-in-Ok-clause-value : goal.returns-in-Ok-clause-value
returns-in-Ok-clause-value c = rw c.in-Ok.ensures.value at c.returned.ensures.value

pub returns-in-Ok-clause-fits : goal.returns-in-Ok-clause-fits
returns-in-Ok-clause-fits c = IfOk-weaker c.returned.result _ _ (λ r h. c.in-Ok.ensures.fits) c.returned.ensures.value

pub returns-in-Ok-clause-past : goal.returns-in-Ok-clause-past
returns-in-Ok-clause-past c q = absurd (c.returned.ensures.fits q)
