use Rattle.cf_linear.proofs.PassingLemmas.{only_units, one}
use Rattle.cf_linear.proofs.written.added.Goals as goal

pub sum-requires-clause-only : goal.sum-requires-clause-only
sum-requires-clause-only c p q = only_units _ c.args.left.now _ c.args.right.now one one p q
