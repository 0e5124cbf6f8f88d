use Rattle.std.proofs.Common.{◌≡◌, take, map, neg_ℤ}
use Rattle.cf_linear.specs.Rows.{entry, without}
use Rattle.cf_bounds.specs.Dropping.{bound_pair}
use Rattle.cf_bounds.proofs.dropping.upper_bounds.Given as goal

abbrev pub invariant-loop-row : goal.invariant-loop-row
invariant-loop-row l = map bound_pair l.out.items ≡ map (λ r. (without l.unknown r, neg_ℤ (entry r l.unknown))) (take l.row-index l.rows)
