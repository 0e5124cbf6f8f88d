use Rattle.cf_pass.proofs.ImproveLaws.{all_forms_improve}
use Rattle.cf_pass.proofs.forms_improve.Goals as goal

pub returns : goal.returns
returns c = all_forms_improve
