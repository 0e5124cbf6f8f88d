use Rattle.cf_pass.proofs.NeedsLaws.{needs_improve}
use Rattle.cf_pass.proofs.drop_needs.NeedsRule.apply.Goals as goal

pub returns-clause-code : goal.returns-clause-code
returns-clause-code c = rw c.drop_needs.ensures.code (needs_improve _ _)
