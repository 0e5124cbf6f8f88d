use Rattle.std.proofs.Common.{◌+◌, ◌*◌}
use Rattle.cf_stmt.proofs.block.Block.TheLaws.{the_size}
use Rattle.cf_stmt.proofs.guards.+guarded.Given as goal

abbrev pub decreases-guarded : goal.decreases-guarded
decreases-guarded l = 4 * the_size l.block.value

abbrev pub decreases-tested : goal.decreases-tested
decreases-tested l = 4 * the_size l.yes.value + 1

abbrev pub decreases-tested_twice : goal.decreases-tested_twice
decreases-tested_twice l = 4 * the_size l.yes.value + 2
