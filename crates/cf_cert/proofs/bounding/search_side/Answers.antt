use Rattle.std.proofs.Common.{sym, ◌∙◌, arith}
use Rattle.cf_linear.specs.Views.{system_of}
use Rattle.cf_cert.proofs.StepLaws.{unheld_rejects, unheld, unheld_in, search_rejects, search_on, search_lacks}
use Rattle.cf_cert.proofs.bounding.search_side.Goals as goal

pub returns-in-Some : goal.returns-in-Some
returns-in-Some c = unheld_rejects (system_of c.args.system) c.args.x _ c.in-Some.why c.in-Some.ensures

pub returns-then-number-gt-MOST_TUPLES : goal.returns-then-number-gt-MOST_TUPLES
returns-then-number-gt-MOST_TUPLES c =
    let m = system_of c.args.system in
    search_rejects c.args.tuples m c.args.x c.args.lower (unheld m c.args.x c.in-None.ensures) c.tuples_after-number.result
    (rw (c.deref.ensures.value, c.of.ensures) at c.tuples_after-number.ensures) (omega (arith, c.if-number-gt-MOST_TUPLES.true))

pub remainder_step-requires-clause-unknown : goal.remainder_step-requires-clause-unknown
remainder_step-requires-clause-unknown c =
    unheld_in (system_of c.args.system) c.args.x (unheld (system_of c.args.system) c.args.x c.in-None.ensures)

pub returns-in-Ok : goal.returns-in-Ok
returns-in-Ok c =
    let m = system_of c.args.system in
    search_on c.args.tuples m c.args.x c.args.lower (unheld m c.args.x c.in-None.ensures) c.tuples_after-number.result
    (rw (c.deref.ensures.value, c.of.ensures) at c.tuples_after-number.ensures) _ (omega (arith, c.if-number-gt-MOST_TUPLES.false))
    (sym c.in-Ok.ensures.next ∙ sym c.after_search.ensures)

pub returns-in-Err : goal.returns-in-Err
returns-in-Err c =
    let m = system_of c.args.system in
    search_lacks c.args.tuples m c.args.x c.args.lower (unheld m c.args.x c.in-None.ensures) c.tuples_after-number.result
    (rw (c.deref.ensures.value, c.of.ensures) at c.tuples_after-number.ensures) (omega (arith, c.if-number-gt-MOST_TUPLES.false))
