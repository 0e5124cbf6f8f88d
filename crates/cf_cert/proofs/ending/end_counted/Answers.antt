use Rattle.std.proofs.Common.{refl, sym, ◌∙◌, Err, subst, ◌∷◌, []}
use Rattle.cf_linear.specs.Stages.{limits}
use Rattle.cf_linear.specs.Views.{system_of}
use Rattle.cf_equation.specs.Equations.{first_of, rest_of}
use Rattle.cf_elim.proofs.NextStageLaws.{end_some}
use Rattle.cf_cert.specs.Applying.{last_of}
use Rattle.cf_cert.specs.Stepping.{ApplyIs}
use Rattle.cf_cert.proofs.StepLaws.{end_counts, end_past, end_on, end_lacks}
use Rattle.cf_cert.proofs.ending.end_counted.Goals as goal

pub returns-in-Err : goal.returns-in-Err
returns-in-Err c =
    let m = system_of c.args.system in
    subst (λ f. ApplyIs (last_of limits m (first_of m) (rest_of m) (c.args.u ∷ [])) (Err f)) (sym c.refusal_of.ensures)
    (end_counts m (first_of m) (rest_of m) c.args.u c.in-Err.fault c.in-Err.ensures)

pub step_first-requires-clause-found : goal.step_first-requires-clause-found
step_first-requires-clause-found c = rw c.requires.one refl

pub step_first-requires-clause-holds : goal.step_first-requires-clause-holds
step_first-requires-clause-holds c = end_some (system_of c.args.system) c.args.u c.requires.one

pub returns-in-Ok-step_first : goal.returns-in-Ok-step_first
returns-in-Ok-step_first c =
    let e = c.in-Ok-step_first.ensures in
    end_on (system_of c.args.system) c.args.u c.requires.one c.in-Ok.ensures _ e.fits (sym e.next ∙ sym c.after_equation.ensures)

pub returns-in-Err-Past : goal.returns-in-Err-Past
returns-in-Err-Past c =
    end_past (system_of c.args.system) c.args.u c.requires.one c.in-Ok.ensures (c.in-Err-Past.ensures.past (rw c.in-Err-Past.field-0-is refl))

pub returns-in-Err-NoMemory : goal.returns-in-Err-NoMemory
returns-in-Err-NoMemory c = end_lacks (system_of c.args.system) c.args.u c.requires.one c.in-Ok.ensures
