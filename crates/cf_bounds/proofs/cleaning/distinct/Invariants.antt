use Rattle.std.proofs.Common.{◌≡◌, [], length, reverse}
use Rattle.cf_linear.specs.Steps.{distinct_after}
use Rattle.cf_bounds.proofs.ListLemmas.{distinct_with}
use Rattle.cf_bounds.proofs.cleaning.distinct.Given as goal

abbrev pub invariant-loop-row : goal.invariant-loop-row
invariant-loop-row l = distinct_with l.out.items (reverse l.left.items) ≡ distinct_after [] l.fn.rows.items

abbrev pub decreases-loop-row : goal.decreases-loop-row
decreases-loop-row l = length l.left.items
