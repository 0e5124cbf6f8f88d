use Rattle.std.proofs.Common.{drop}
use Rattle.cf_linear.specs.Steps.{present}
use Rattle.cf_equation.specs.Unknowns.{IsSoFar}
use Rattle.cf_equation.proofs.unknowns.first_present.Given as goal

abbrev pub invariant-loop-u : goal.invariant-loop-u
invariant-loop-u l = IsSoFar l.first (present (drop l.u-index l.unknown) l.row) (present l.unknown l.row)
