use Rattle.std.proofs.Common.{sym, subst}
use Rattle.cf_linear.specs.Stages.{limits}
use Rattle.cf_linear.specs.Views.{system_of}
use Rattle.cf_cert.specs.Applying.{apply}
use Rattle.cf_cert.specs.Stepping.{MayLackMemory}
use Rattle.cf_cert.proofs.WayLaws.{advanced, way_faulted}
use Rattle.cf_cert.proofs.follow.advance.Goals as goal

pub returns-in-Err : goal.returns-in-Err
returns-in-Err c =
    way_faulted c.args.way (apply limits c.args.way.tuples (system_of c.args.way.system) c.args.act.now) c.in-Err.fault c.in-Err.ensures.applied

pub returns-in-Ok-added : goal.returns-in-Ok-added
returns-in-Ok-added c =
    advanced c.args.way c.in-Ok-added.way c.in-Ok.next c.args.act.now c.requires.ready c.in-Ok.ensures.applied c.in-Ok-added.ensures

pub returns-in-Err-added : goal.returns-in-Err-added
returns-in-Err-added c = subst MayLackMemory (sym c.in-Ok.ensures.applied) tt
