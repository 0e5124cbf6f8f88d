use Rattle.std.proofs.Common.{All}
use Rattle.cf_linear.specs.Rows.{Values}
use Rattle.cf_close.specs.Facts.{FactHolds}
use Rattle.cf_close.proofs.fact.sum.Given as goal

abbrev pub invariant-loop-multiple : goal.invariant-loop-multiple
invariant-loop-multiple l = (v : Values) → All (FactHolds v) l.facts → FactHolds v l.total
