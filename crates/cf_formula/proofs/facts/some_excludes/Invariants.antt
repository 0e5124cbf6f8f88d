use Rattle.std.proofs.Common.{◌≡◌, drop}
use Rattle.cf_formula.specs.Facts.{is_excluded}
use Rattle.cf_formula.proofs.facts.some_excludes.Given as goal

abbrev pub invariant-loop-bound : goal.invariant-loop-bound
invariant-loop-bound l = is_excluded l.rows l.row ≡ is_excluded (drop l.bound-index l.rows) l.row
