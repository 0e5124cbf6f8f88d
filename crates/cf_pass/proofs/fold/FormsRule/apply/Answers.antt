use Rattle.cf_pass.proofs.FoldLaws.{folded_improves}
use Rattle.cf_pass.proofs.fold.FormsRule.apply.Goals as goal

pub returns-clause-code : goal.returns-clause-code
returns-clause-code c = folded_improves _ _ _ c.put_value.ensures.code
