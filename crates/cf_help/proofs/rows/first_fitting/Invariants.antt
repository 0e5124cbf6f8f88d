use Rattle.std.proofs.Common.{◌≡◌, map, drop}
use Rattle.cf_help.specs.Rows.{first_fitting}
use Rattle.cf_help.specs.WordsView.{row_of}
use Rattle.cf_help.proofs.rows.first_fitting.Given as goal

abbrev pub invariant-loop-row : goal.invariant-loop-row
invariant-loop-row l = first_fitting (map row_of (drop l.row-index l.rows)) ≡ first_fitting (map row_of l.rows)
