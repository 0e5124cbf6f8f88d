use Rattle.cf_pass.proofs.WalkSteps.{on_ok}
use Rattle.cf_pass.proofs.walk.rewrite_each.Goals as goal

pub returns-clause-code : goal.returns-clause-code
returns-clause-code g c = c.walk.ensures.better

pub returns-clause-tally : goal.returns-clause-tally
returns-clause-tally g c = c.walk.ensures.tally

pub returns-clause-made : goal.returns-clause-made
returns-clause-made g c = on_ok c.walk.result (λ k. (c.walk.ensures.exact k).1)

pub returns-clause-units : goal.returns-clause-units
returns-clause-units g c = on_ok c.walk.result (λ k. (c.walk.ensures.exact k).2)
