use Rattle.std.proofs.Common.{refl}
use Rattle.cf_linear.proofs.MapLemmas.{back}
use Rattle.cf_linear.proofs.PassingLemmas.{true_not_false}
use Rattle.cf_equation.proofs.EndValues.{unit_fine}
use Rattle.cf_equation.proofs.end.unit_multiple.Goals as goal

pub unreachable-requires : goal.unreachable-requires
unreachable-requires c =
    let n = rw (back c.args.c c.requires.c_in) at c.neg.ensures.value in
    let p = rw (back c.neg.result c.neg.ensures.fits, n, c.empty-none.ensures) at (c.in-Err-Past.ensures.past (rw c.in-Err-Past.field-0-is refl)) in
    true_not_false p (unit_fine c.args.c c.args.row.now c.requires.unit c.in-Err-Past.ensures.rows.0)

pub returns-in-Ok : goal.returns-in-Ok
returns-in-Ok c =
    let n = rw (back c.args.c c.requires.c_in) at c.neg.ensures.value in
    rw (back c.neg.result c.neg.ensures.fits, n, c.empty-none.ensures) at c.in-Ok.ensures.value
