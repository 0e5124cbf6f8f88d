use Rattle.std.proofs.Common.{◌∙◌, drop, arith}
use Rattle.cf_smt.proofs.LoopLaws.{not_few}
use Rattle.cf_smt.proofs.tuple.few_below.Goals as goal

pub returns-else-n-le64 : goal.returns-else-n-le64
returns-else-n-le64 c =
    not_few c.loop-bound.n (drop c.loop-bound.bound-index c.args.bounds.now) (omega (arith, c.if-n-le64.false)) ∙ c.loop-bound.invariant
