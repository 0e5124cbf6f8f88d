use Rattle.std.proofs.Common.{◌≡◌, ◌≤◌, take, length}
use Rattle.std.specs.Prelude.{filter}
use Rattle.cf_cert.specs.Counting.{gets_column}
use Rattle.cf_cert.proofs.counting.made_columns.Given as goal

abbrev pub invariant-loop-row : goal.invariant-loop-row
invariant-loop-row l = record {
  value : l.made ≡ length (filter (gets_column l.unknown) (take l.row-index l.rows));
  low : l.made ≤ l.row-index;
}
