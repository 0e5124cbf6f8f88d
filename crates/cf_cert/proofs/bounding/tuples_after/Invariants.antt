use Rattle.std.proofs.Common.{◌≡◌, drop}
use Rattle.std.specs.List.{fold}
use Rattle.cf_linear.specs.Sides.{is_lower}
use Rattle.cf_cert.specs.Stepping.{times_great}
use Rattle.cf_cert.proofs.bounding.tuples_after.Given as goal

abbrev pub invariant-loop-row : goal.invariant-loop-row
invariant-loop-row l = fold (times_great (is_lower l.side) l.x) l.product (drop l.row-index l.rows) ≡ fold (times_great (is_lower l.side) l.x) l.tuples l.rows
