use Rattle.cf_form.proofs.ConditionLaws.{conditions_hold}
use Rattle.cf_form.proofs.conditions_are_held.Goals as goal

pub returns : goal.returns
returns c = conditions_hold
