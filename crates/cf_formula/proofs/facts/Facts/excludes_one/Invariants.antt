use Rattle.std.proofs.Common.{◌≡◌, drop}
use Rattle.std.specs.List.{list_any}
use Rattle.cf_formula.specs.Facts.{is_excluded}
use Rattle.cf_formula.proofs.facts.Facts.excludes_one.Given as goal

abbrev pub invariant-loop-row : goal.invariant-loop-row
invariant-loop-row l = list_any (is_excluded l.self.rows.items) l.rows ≡ list_any (is_excluded l.self.rows.items) (drop l.row-index l.rows)
