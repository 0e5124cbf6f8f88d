use Rattle.std.proofs.Common.{refl, sym, ◌∙◌}
use Rattle.cf_linear.specs.declared.refusal.Refusal.TheVariants.{Past}
use Rattle.cf_linear.specs.Steps.{mix, mix_passes}
use Rattle.cf_linear.specs.Views.{system_of}
use Rattle.cf_cert.specs.declared.verdict.Why.TheVariants.{Refused}
use Rattle.cf_cert.proofs.StepLaws.{kept_on, kept_lacks, rejects}
use Rattle.cf_cert.proofs.mixing.mixed.Goals as goal

pub returns-in-Ok : goal.returns-in-Ok
returns-in-Ok c =
    let e = c.in-Ok.ensures in kept_on _ (Refused Past) _ _ e.fits (sym e.value ∙ sym c.after_equation.ensures)

pub returns-in-Err-Past : goal.returns-in-Err-Past
returns-in-Err-Past c = rejects _ (Refused Past) _ (c.in-Err-Past.ensures.past (rw c.in-Err-Past.field-0-is refl))

pub returns-in-Err-NoMemory : goal.returns-in-Err-NoMemory
returns-in-Err-NoMemory c =
    let m = system_of c.args.system in
    let f = c.args.factors in
    kept_lacks (mix_passes m c.args.x c.args.y f.s f.m f.t f.n) (mix m c.args.x c.args.y f.s f.m f.t f.n)
