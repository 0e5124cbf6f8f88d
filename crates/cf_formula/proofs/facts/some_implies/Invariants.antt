use Rattle.std.proofs.Common.{◌≡◌, drop}
use Rattle.cf_formula.specs.Facts.{is_implied}
use Rattle.cf_formula.proofs.facts.some_implies.Given as goal

abbrev pub invariant-loop-bound : goal.invariant-loop-bound
invariant-loop-bound l = is_implied l.rows l.row ≡ is_implied (drop l.bound-index l.rows) l.row
