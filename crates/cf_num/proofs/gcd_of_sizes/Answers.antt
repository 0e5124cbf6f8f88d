use Rattle.std.proofs.Common.{arith}
use Rattle.std.proofs.lemmas.Nat.Gcd.{IsGcd-from_zero, IsGcd-from_mod}
use Rattle.cf_num.proofs.EuclidLemmas.{below_from_IsGcd}
use Rattle.cf_num.proofs.gcd_of_sizes.Goals as goal

pub loop-y-preserved : goal.loop-y-preserved
loop-y-preserved c g h = c.loop-y.invariant g (IsGcd-from_mod _ _ g h)

pub returns-clause-divisor : goal.returns-clause-divisor
returns-clause-divisor c = c.loop-y.invariant _ (IsGcd-from_zero _ _ (omega arith))

pub returns-clause-bound : goal.returns-clause-bound
returns-clause-bound c = below_from_IsGcd _ _ _ _ (c.loop-y.invariant _ (IsGcd-from_zero _ _ (omega arith))) (omega arith) (omega arith)
