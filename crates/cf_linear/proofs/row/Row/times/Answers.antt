use Rattle.cf_linear.proofs.MapLemmas.{back}
use Rattle.cf_linear.proofs.PassingLemmas.{only_times}
use Rattle.cf_linear.proofs.row.Row.times.Goals as goal

pub sum-requires-clause-only : goal.sum-requires-clause-only
sum-requires-clause-only c p q = rw (back c.args.k c.requires.k_in, c.empty-none.ensures) (only_times c.args.k c.args.self.now)

pub returns-clause-gives : goal.returns-clause-gives
returns-clause-gives c = rw (back c.args.k c.requires.k_in, c.empty-none.ensures) at c.sum.ensures.gives
