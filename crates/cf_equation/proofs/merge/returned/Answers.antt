use Rattle.std.proofs.Common.{refl}
use Rattle.cf_equation.proofs.merge.returned.Goals as goal

pub returns-in-Ok-clause-value : goal.returns-in-Ok-clause-value
returns-in-Ok-clause-value c = rw (c.new.ensures.items, c.in-Ok.ensures) refl
