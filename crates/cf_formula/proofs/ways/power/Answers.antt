use Rattle.std.proofs.Common.{◌≤◌, ◌^◌, arith}
use Rattle.std.proofs.Math.Nat.{pow-le-pow_right}
use Rattle.cf_formula.proofs.ways.power.Goals as goal

pub returns-then-n-le62-clause-small : goal.returns-then-n-le62-clause-small
returns-then-n-le62-clause-small c =
    let f = c.if-n-le62.true in
    let p : 2 ^ c.args.n ≤ 2 ^ 62 = pow-le-pow_right {n = 2} (omega arith) f in omega arith
