use Rattle.std.proofs.Common.{◌≡◌, ◌+◌, arith, length, ◌-◌, eqb-true, sym}
use Rattle.std.proofs.lemmas.Bool.Decides.{nat_tests}
use Rattle.cf_help.proofs.ReturnLemmas.{return_left_out, no_return, no_bytes}
use Rattle.cf_help.proofs.lines.without_return.Goals as goal

pub returns-then-is_empty : goal.returns-then-is_empty
returns-then-is_empty c = no_bytes c.args.line.now (eqb-true _ _ (sym c.if-is_empty.ensures))

pub returns-then-line-last-eq13 : goal.returns-then-line-last-eq13
returns-then-line-last-eq13 c =
    let more : length c.args.line.now ≡ length c.args.line.now - 1 + 1 = grind (arith, nat_tests, c.if-is_empty.ensures) in
    return_left_out (length c.args.line.now - 1) c.args.line.now (omega (arith, more)) c.if-line-last-eq13.true

pub returns-else-line-last-eq13 : goal.returns-else-line-last-eq13
returns-else-line-last-eq13 c =
    let more : length c.args.line.now ≡ length c.args.line.now - 1 + 1 = grind (arith, nat_tests, c.if-is_empty.ensures) in
    no_return (length c.args.line.now - 1) c.args.line.now (omega (arith, more)) c.if-line-last-eq13.false
