use Rattle.std.proofs.Common.{refl}
use Rattle.cf_linear.specs.Views.{system_of}
use Rattle.cf_elim.specs.Stages.{past_clean}
use Rattle.cf_elim.proofs.NextStageLaws.{reduced_on, reduced_past}
use Rattle.cf_elim.proofs.equation.reduced_stage.Goals as goal

pub returns-in-Ok : goal.returns-in-Ok
returns-in-Ok c =
    let r = c.requires in
    let e = c.in-Ok.ensures in
    reduced_on (past_clean (system_of c.args.system) c.args.tuples) c.args.is_past_clean c.in-Ok.reduced c.goes.result r.some r.holds r.within_counts r.after
    e.next e.owes e.formed e.differ e.fits c.goes.ensures

pub returns-in-Err-Past : goal.returns-in-Err-Past
returns-in-Err-Past c =
    let r = c.requires in
    reduced_past (past_clean (system_of c.args.system) c.args.tuples) c.args.is_past_clean r.holds r.within_counts r.after
    (c.in-Err-Past.ensures.past (rw c.in-Err-Past.field-0-is refl))
