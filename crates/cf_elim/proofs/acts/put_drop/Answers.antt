use Rattle.std.proofs.Common.{arith}
use Rattle.cf_elim.proofs.acts.put_drop.Goals as goal

pub put-requires : goal.put-requires
put-requires c = omega (arith, c.ranges.column)
