use Rattle.cf_pass.proofs.LetLaws.{form_improves}
use Rattle.cf_pass.proofs.drop_lets.LetsRule.apply.Goals as goal

pub returns-in-Ok-clause-code : goal.returns-in-Ok-clause-code
returns-in-Ok-clause-code c = rw c.drop_lets.ensures.partly.1 (form_improves c.args.outside c.drop_lets.ensures.partly.0 _)

pub returns-in-Err-clause-code : goal.returns-in-Err-clause-code
returns-in-Err-clause-code c = rw c.drop_lets.ensures.partly.1 (form_improves c.args.outside c.drop_lets.ensures.partly.0 _)
