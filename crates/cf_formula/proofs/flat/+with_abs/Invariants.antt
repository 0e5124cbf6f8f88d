use Rattle.std.proofs.Common.{◌+◌, ◌*◌, length}
use Rattle.cf_formula.proofs.flat.+with_abs.Given as goal

abbrev pub decreases-with_abs : goal.decreases-with_abs
decreases-with_abs l = 4 * length l.parts.now

abbrev pub decreases-with_both : goal.decreases-with_both
decreases-with_both l = 4 * length l.parts.now + 2

abbrev pub decreases-with_one : goal.decreases-with_one
decreases-with_one l = 4 * length l.parts.now + 1
