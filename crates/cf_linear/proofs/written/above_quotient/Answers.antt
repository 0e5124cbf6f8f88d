use Rattle.std.proofs.Common.{pos, neg_ℤ}
use Rattle.cf_linear.proofs.MapLemmas.{back}
use Rattle.cf_linear.proofs.PassingLemmas.{only_column, one, neg_within}
use Rattle.cf_linear.proofs.written.above_quotient.Goals as goal

pub sum-requires-clause-only : goal.sum-requires-clause-only
sum-requires-clause-only c p q =
    rw (back c.neg.result c.neg.ensures.fits, c.neg.ensures.value, back c.args.k.now c.requires.1, c.in_ok-quotient.ensures)
    (only_column (pos 1) c.args.of.now (neg_ℤ c.args.k.now) c.args.column one (neg_within c.args.k.now c.requires.1) p)

pub returns-clause-gives : goal.returns-clause-gives
returns-clause-gives c =
    rw (back c.neg.result c.neg.ensures.fits, c.neg.ensures.value, back c.args.k.now c.requires.1, c.in_ok-quotient.ensures) at c.sum.ensures.gives
