use Rattle.std.proofs.Common.{sym, subst, ◌∙◌, Err}
use Rattle.cf_linear.specs.Stages.{limits}
use Rattle.cf_linear.specs.Views.{system_of}
use Rattle.cf_bounds.specs.Dropping.{dropped_answer}
use Rattle.cf_cert.specs.Applying.{drop_applied}
use Rattle.cf_cert.specs.Stepping.{ApplyIs}
use Rattle.cf_cert.proofs.ApplyLaws.{exact_from}
use Rattle.cf_cert.proofs.StepLaws.{unheld_rejects, unheld, unheld_in, unheld_free, drop_inexact, drop_fault, drop_on}
use Rattle.cf_cert.proofs.bounding.drop_unknown.Goals as goal

pub returns-in-Some : goal.returns-in-Some
returns-in-Some c = unheld_rejects (system_of c.args.system) c.args.x _ c.in-Some.why c.in-Some.ensures

pub returns-then-has_inexact : goal.returns-then-has_inexact
returns-then-has_inexact c =
    let m = system_of c.args.system in
    drop_inexact m c.args.x (unheld m c.args.x c.in-None.ensures) (sym (rw c.deref.ensures.value at c.has_inexact.ensures) ∙ c.if-has_inexact.true)

pub dropped_within-requires-clause-unknown : goal.dropped_within-requires-clause-unknown
dropped_within-requires-clause-unknown c = let m = system_of c.args.system in unheld_in m c.args.x (unheld m c.args.x c.in-None.ensures)

pub dropped_within-requires-clause-free : goal.dropped_within-requires-clause-free
dropped_within-requires-clause-free c = let m = system_of c.args.system in unheld_free m c.args.x (unheld m c.args.x c.in-None.ensures)

pub dropped_within-requires-clause-exact : goal.dropped_within-requires-clause-exact
dropped_within-requires-clause-exact c =
    exact_from (system_of c.args.system) c.args.x (sym (rw c.deref.ensures.value at c.has_inexact.ensures) ∙ c.if-has_inexact.false)

pub returns-in-Ok : goal.returns-in-Ok
returns-in-Ok c =
    let m = system_of c.args.system in
    let h = c.in-Ok.ensures in
    subst (λ a. ApplyIs a c.after_drop.result)
    (sym (drop_on m c.args.x (unheld m c.args.x c.in-None.ensures) (dropped_answer c.in-Ok.dropped)
    (sym (rw c.deref.ensures.value at c.has_inexact.ensures) ∙ c.if-has_inexact.false) h.within_counts h.fits (sym h.is))) c.after_drop.ensures

pub returns-in-Err : goal.returns-in-Err
returns-in-Err c =
    let m = system_of c.args.system in
    subst (λ f. ApplyIs (drop_applied limits m c.args.x) (Err f)) (sym c.refusal_of.ensures)
    (drop_fault m c.args.x (unheld m c.args.x c.in-None.ensures) c.in-Err.fault
    (sym (rw c.deref.ensures.value at c.has_inexact.ensures) ∙ c.if-has_inexact.false) c.in-Err.ensures)
