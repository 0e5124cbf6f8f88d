use Rattle.std.proofs.Common.{◌≡◌, ◌∙◌, Err, true, false}
use Rattle.cf_linear.specs.declared.refusal.RowFault.TheVariants.{Past}
use Rattle.cf_linear.specs.Views.{system_of}
use Rattle.cf_bounds.specs.Sides.{side}
use Rattle.cf_bounds.proofs.DropLaws.{drop_passes_from}
use Rattle.cf_bounds.proofs.dropping.dropped_system.Goals as goal

pub returns-in_ok-with_left-in-Ok-clause-fits : goal.returns-in_ok-with_left-in-Ok-clause-fits
returns-in_ok-with_left-in-Ok-clause-fits c =
    let low : c.deref-3.result.now ≡ side true c.args.unknown c.args.system.inequalities.items =
    c.deref-3.ensures.value ∙ (rw (c.deref.ensures.value, c.split_system-rest.ensures.rows) at c.in_ok-low.ensures) in
    let high : c.deref-4.result.now ≡ side false c.args.unknown c.args.system.inequalities.items =
    c.deref-4.ensures.value ∙ (rw (c.deref-2.ensures.value, c.split_system-rest.ensures.rows) at c.in_ok-high.ensures) in
    drop_passes_from (system_of c.args.system) c.args.unknown c.deref-3.result.now c.deref-4.result.now false c.in-Ok.ensures.fits low high

pub returns-in-Err-clause-past : goal.returns-in-Err-clause-past
returns-in-Err-clause-past c = λ e.
    let f : c.in-Err.fault ≡ Past = cc in
    let r : c.left_rows.result ≡ Err Past = cc in
    let low : c.deref-3.result.now ≡ side true c.args.unknown c.args.system.inequalities.items =
    c.deref-3.ensures.value ∙ (rw (c.deref.ensures.value, c.split_system-rest.ensures.rows) at c.in_ok-low.ensures) in
    let high : c.deref-4.result.now ≡ side false c.args.unknown c.args.system.inequalities.items =
    c.deref-4.ensures.value ∙ (rw (c.deref-2.ensures.value, c.split_system-rest.ensures.rows) at c.in_ok-high.ensures) in
    drop_passes_from (system_of c.args.system) c.args.unknown c.deref-3.result.now c.deref-4.result.now true (c.left_rows.ensures.past r) low high
