use Rattle.std.proofs.Common.{◌≤◌, ◌^◌, arith}
use Rattle.std.proofs.Math.Nat.{pow-le-pow_right}
use Rattle.cf_cases.proofs.signs.choices.Goals as goal

pub returns-else-count-lt64 : goal.returns-else-count-lt64
returns-else-count-lt64 c =
    let f = c.if-count-lt64.false in
    let p : 2 ^ 64 ≤ 2 ^ c.args.count = pow-le-pow_right {n = 2} (omega arith) f in omega arith
