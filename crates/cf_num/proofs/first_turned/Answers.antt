use Rattle.std.proofs.Common.{◌≢◌, pos, arith, rules}
use Rattle.std.specs.Prelude.{FitsSigned, ◌≤ℤ◌}
use Rattle.std.specs.Int.{w128}
use Rattle.std.proofs.lemmas.Int.{ints}
use Rattle.cf_num.proofs.SignLemmas.{turned_value}
use Rattle.cf_num.proofs.first_turned.Goals as goal

pub returns-then-p-ne0 : goal.returns-then-p-ne0
returns-then-p-ne0 c =
    let t : FitsSigned w128 c.args.p.parts.t = search rules in
    let m : FitsSigned w128 c.args.p.m = search rules in
    let s : FitsSigned w128 c.args.p.parts.s = search rules in
    let some : c.args.p.parts.s ≢ pos 0 = omega (arith, ints) in
    let low : c.args.p.parts.t ≤ℤ pos 0 = c.requires.small.t_high some in
    turned_value c.args.turned c.args.p _ _ _ c.if-turned.true some (omega (arith, ints)) (omega (arith, ints)) (omega (arith, ints))
