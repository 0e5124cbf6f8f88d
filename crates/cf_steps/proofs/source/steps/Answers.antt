use Rattle.std.proofs.Common.{refl}
use Rattle.cf_steps.proofs.Few.{few_law}
use Rattle.cf_steps.proofs.Found.{found_from}
use Rattle.cf_steps.proofs.Spelled.{spelled_from}
use Rattle.cf_steps.proofs.source.steps.Goals as goal

pub returns-in-Ok-clause-found : goal.returns-in-Ok-clause-found
returns-in-Ok-clause-found c = found_from _ _ _ _ _ c.as_slice.ensures.value c.in-Ok.ensures

pub returns-in-Ok-clause-spelled : goal.returns-in-Ok-clause-spelled
returns-in-Ok-clause-spelled c small = spelled_from _ c.in-Ok.list.items _ _ c.as_slice.ensures.value (found_from _ _ _ _ _ refl c.in-Ok.ensures) small

pub returns-in-Ok-clause-few : goal.returns-in-Ok-clause-few
returns-in-Ok-clause-few c = few_law _ _ _ (found_from _ _ _ _ _ c.as_slice.ensures.value c.in-Ok.ensures)
