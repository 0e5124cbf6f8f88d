use Rattle.std.proofs.Common.{Err, sym, subst, ◌∙◌}
use Rattle.cf_linear.specs.Stages.{limits}
use Rattle.cf_linear.specs.Views.{system_of}
use Rattle.cf_cert.specs.Applying.{clean_applied}
use Rattle.cf_cert.specs.Stepping.{ApplyIs}
use Rattle.cf_cert.proofs.StepLaws.{clean_rejects, clean_on, clean_lacks}
use Rattle.cf_cert.proofs.cleaning.clean_rows.Goals as goal

pub returns-in-Err : goal.returns-in-Err
returns-in-Err c =
    subst (λ f. ApplyIs (clean_applied limits (system_of c.args.system)) (Err f)) (sym c.refusal_of.ensures)
    (clean_rejects (system_of c.args.system) c.in-Err.fault c.in-Err.ensures)

pub returns-in-Ok-clean : goal.returns-in-Ok-clean
returns-in-Ok-clean c = clean_on (system_of c.args.system) _ c.in-Ok.ensures (sym c.in-Ok-clean.ensures.next ∙ sym c.after_clean.ensures)

pub returns-in-Err-clean : goal.returns-in-Err-clean
returns-in-Err-clean c = clean_lacks (system_of c.args.system) c.in-Ok.ensures
