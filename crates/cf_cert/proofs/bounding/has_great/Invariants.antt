use Rattle.std.proofs.Common.{◌≡◌, drop}
use Rattle.std.specs.List.{list_any}
use Rattle.cf_linear.specs.Sides.{is_lower}
use Rattle.cf_bounds.specs.Sides.{is_great}
use Rattle.cf_cert.proofs.bounding.has_great.Given as goal

abbrev pub invariant-loop-row : goal.invariant-loop-row
invariant-loop-row l = list_any (is_great (is_lower l.side) l.x) l.rows ≡ list_any (is_great (is_lower l.side) l.x) (drop l.row-index l.rows)
