use Rattle.cf_cases.proofs.HeldLaws.{held_by_cases}
use Rattle.cf_cases.proofs.laws.held_by_cases.Goals as goal

pub returns : goal.returns
returns c = held_by_cases
