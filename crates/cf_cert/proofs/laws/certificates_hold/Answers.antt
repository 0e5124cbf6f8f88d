use Rattle.cf_cert.proofs.CertifiedArms.{certified_typed}
use Rattle.cf_cert.proofs.laws.certificates_hold.Goals as goal

pub returns-clause-typed : goal.returns-clause-typed
returns-clause-typed c = certified_typed
