use Rattle.cf_linear.specs.Views.{system_of}
use Rattle.cf_cert.proofs.StepLaws.{stays_ready}
use Rattle.cf_cert.proofs.apply.apply.Goals as goal

pub returns-clause-ready : goal.returns-clause-ready
returns-clause-ready c = stays_ready c.args.tuples (system_of c.args.system) c.args.act c.step.result c.requires.ready c.step.ensures
