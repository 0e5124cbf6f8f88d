use Rattle.std.proofs.Common.{◌≡◌, pos, negsuc, arith, Err, rules}
use Rattle.std.specs.Prelude.{◌≤ℤ◌}
use Rattle.std.proofs.lemmas.Int.{ints}
use Rattle.cf_linear.specs.Rows.{entry, row_passes}
use Rattle.cf_linear.specs.Written.{plus}
use Rattle.cf_linear.specs.Cases.{less}
use Rattle.cf_linear.proofs.PassingLemmas.{true_not_false, fails_where}
use Rattle.cf_cases.proofs.LessLaws.{lower_not, less-plus, less_past}
use Rattle.cf_cases.proofs.system_builder.less_one.Goals as goal

pub returns-in_ok-lower : goal.returns-in_ok-lower
returns-in_ok-lower c = rw (c.in_ok-lower.ensures.0, less-plus c.args.left.now c.args.right.now c.entry.ensures.is_row.0 c.subtracted.ensures.rows.1.0) at
    c.subtracted.ensures.gives

pub returns-in_err-lower : goal.returns-in_err-lower
returns-in_err-lower c =
    let e : c.from_residual.result ≡ Err c.in_err-lower.field-0.0 = search rules in
    let v = c.entry.ensures.value in
    let t = c.if-entry-gt0.true in
    let p : pos 1 ≤ℤ entry c.args.left.now 0 = omega (arith, ints) in
    rw e (fails_where c.in_err-lower.field-0.0 (row_passes (plus c.args.left.now (negsuc 0)))
    (row_passes (plus (less c.args.left.now c.args.right.now) (negsuc 0)))
    (λ h. true_not_false h (lower_not c.args.left.now c.entry.ensures.is_row p)) c.in_err-lower.ensures)

pub returns-in_err-row : goal.returns-in_err-row
returns-in_err-row c =
    let e : c.from_residual-in_err-row.result ≡ Err c.in_err-row.field-0.0 = search rules in
    let v = c.entry.ensures.value in
    let f = c.if-entry-gt0.false in
    let n : entry c.args.left.now 0 ≤ℤ pos 0 = omega (arith, ints) in
    let r = c.in_err-row.ensures.rows in
    rw e (fails_where c.in_err-row.field-0.0 (row_passes (less c.args.left.now c.args.right.now))
    (row_passes (plus (less c.args.left.now c.args.right.now) (negsuc 0)))
    (λ h. less_past c.args.left.now c.args.right.now r.0 r.1 n h) c.in_err-row.ensures.gives)
