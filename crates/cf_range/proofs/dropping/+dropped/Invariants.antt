use Rattle.std.proofs.Common.{◌+◌, ◌*◌, length}
use Rattle.cf_range.proofs.dropping.+dropped.Given as goal

abbrev pub decreases-lets_dropped : goal.decreases-lets_dropped
decreases-lets_dropped l = 2 * length l.items.now + 1

abbrev pub decreases-first_dropped : goal.decreases-first_dropped
decreases-first_dropped l = 2 * length l.more.now + 2
