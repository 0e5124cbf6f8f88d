use Rattle.std.proofs.Common.{◌≡◌, ◌++◌, map, length, reverse}
use Rattle.cf_linear.specs.Systems.{need_nonneg}
use Rattle.cf_linear.specs.Views.{step_of}
use Rattle.cf_bounds.proofs.cleaning.nonneg_needs.Given as goal

abbrev pub invariant-loop-row : goal.invariant-loop-row
invariant-loop-row l = map step_of l.out.items ++ map need_nonneg (reverse l.left.items) ≡ map need_nonneg l.fn.rows.items

abbrev pub decreases-loop-row : goal.decreases-loop-row
decreases-loop-row l = length l.left.items
