use Rattle.std.proofs.Common.{◌≡◌, ◌++◌, length, reverse}
use Rattle.cf_linear.specs.Steps.{free_of}
use Rattle.cf_bounds.proofs.dropping.free_rows.Given as goal

abbrev pub invariant-loop-row : goal.invariant-loop-row
invariant-loop-row l = l.out.items ++ free_of l.unknown (reverse l.left.items) ≡ free_of l.unknown l.fn.rows.items

abbrev pub decreases-loop-row : goal.decreases-loop-row
decreases-loop-row l = length l.left.items
