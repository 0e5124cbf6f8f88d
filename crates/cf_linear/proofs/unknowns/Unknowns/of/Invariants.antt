use Rattle.std.proofs.Common.{◌++◌, drop}
use Rattle.cf_linear.specs.Unknowns.{HaveSame}
use Rattle.cf_linear.proofs.unknowns.Unknowns.of.Given as goal

abbrev pub invariant-loop-column : goal.invariant-loop-column
invariant-loop-column l = HaveSame (l.unknowns ++ drop l.column-index l.columns) l.columns
