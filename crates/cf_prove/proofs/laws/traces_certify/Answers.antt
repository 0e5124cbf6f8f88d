use Rattle.cf_prove.proofs.TraceLaws.{traced_certifies}
use Rattle.cf_prove.proofs.laws.traces_certify.Goals as goal

pub returns : goal.returns
returns c = λ q u. traced_certifies q u
