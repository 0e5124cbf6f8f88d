use Rattle.std.proofs.Common.{refl}
use Rattle.cf_linear.specs.Views.{system_of}
use Rattle.cf_elim.proofs.BoundLaws.{drop_out, drop_on, drop_past, drop_lacks}
use Rattle.cf_elim.proofs.bound.dropped_within.Goals as goal

pub returns-in-Err : goal.returns-in-Err
returns-in-Err c = drop_out (system_of c.args.system) c.args.x c.in-Err.fault c.in-Err.ensures

pub returns-in-Ok-drop_output : goal.returns-in-Ok-drop_output
returns-in-Ok-drop_output c =
    let o = c.in-Ok-drop_output in
    let e = o.ensures in drop_on (system_of c.args.system) c.args.x o.dropped c.in-Ok.ensures e.fits e.next e.owes e.formed

pub returns-in-Err-Past : goal.returns-in-Err-Past
returns-in-Err-Past c = drop_past (system_of c.args.system) c.args.x c.in-Ok.ensures (c.in-Err-Past.ensures.past (rw c.in-Err-Past.field-0-is refl))

pub returns-in-Err-NoMemory : goal.returns-in-Err-NoMemory
returns-in-Err-NoMemory c = drop_lacks (system_of c.args.system) c.args.x c.in-Ok.ensures
