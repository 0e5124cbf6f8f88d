use Rattle.std.proofs.Common.{◌≡◌, not, drop}
use Rattle.std.specs.List.{list_any}
use Rattle.cf_linear.specs.Rows.{entry, is_zero}
use Rattle.cf_cert.proofs.bounding.is_held.Given as goal

abbrev pub invariant-loop-row : goal.invariant-loop-row
invariant-loop-row l = list_any (λ r. not (is_zero (entry r l.x))) l.rows ≡ list_any (λ r. not (is_zero (entry r l.x))) (drop l.row-index l.rows)
