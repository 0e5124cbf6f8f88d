use Rattle.std.proofs.Common.{◌≡◌, Err, rules}
use Rattle.cf_cases.proofs.AddLaws.{above_fails}
use Rattle.cf_cases.proofs.system_builder.above_one.Goals as goal

pub returns-in_err-above : goal.returns-in_err-above
returns-in_err-above c =
    let e : c.from_residual.result ≡ Err c.in_err-above.field-0.0 = search rules in
    rw e (above_fails c.in_err-above.field-0.0 c.args.column c.args.of.now c.args.k.now c.requires.column c.in_err-above.ensures.rows
    c.in_err-above.ensures.gives)
