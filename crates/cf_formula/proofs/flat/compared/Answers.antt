use Rattle.cf_formula.specs.WritingAnswers.{flat_of}
use Rattle.cf_formula.proofs.WritingCode.{ne_made}
use Rattle.cf_formula.proofs.flat.compared.Goals as goal

pub returns-in_ok-joined-in-Ok-at_least : goal.returns-in_ok-joined-in-Ok-at_least
returns-in_ok-joined-in-Ok-at_least c =
    rw c.in-Ne.is (ne_made (flat_of c.args.flat.now) _ _ _ c.in_ok-low-in-Ne.ensures c.in-Ok-at_least.ensures c.in_ok-joined-in-Ok-at_least.ensures)
