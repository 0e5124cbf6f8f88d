use Rattle.cf_pass.proofs.DeadLaws.{arms_improve}
use Rattle.cf_pass.proofs.drop_arms.ArmsRule.apply.Goals as goal

pub returns-clause-code : goal.returns-clause-code
returns-clause-code c = rw c.drop_arms.ensures.code (arms_improve _ _)
