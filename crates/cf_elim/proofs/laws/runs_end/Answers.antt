use Rattle.cf_elim.proofs.EndLaws.{run_is_trace}
use Rattle.cf_elim.proofs.laws.runs_end.Goals as goal

pub returns : goal.returns
returns c = λ m f d. run_is_trace m (record { formed = f; differ = d })
