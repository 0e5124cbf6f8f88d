-- What the program's outcome of a choose, or of a late program, stands for.
use Rattle.cf_tree.specs.Values.{values, no_solution}
use Rattle.cf_eval.specs.Seen.{plains}
use Rattle.cf_late.specs.declared.outcome.LateOutcome.TheVariants as outcome
use Rattle.cf_late.specs.declared.outcome.LateOutcome.{LateOutcome as DeclaredLateOutcome}
use Rattle.cf_late.specs.ChooseRun.{LateOutcome, comes_to, overflow, refused}
use Rattle.cf_late.specs.Fitting.{AreFit}

abbrev pub late_of : DeclaredLateOutcome → LateOutcome
late_of (outcome.Values vs) = comes_to (values (plains vs.items))
late_of (outcome.NoSolution n) = comes_to (no_solution n)
late_of outcome.Overflow = overflow
late_of (outcome.Refused n r) = refused n r

-- values within the limit, where there are some
abbrev pub IsFitOutcome : DeclaredLateOutcome → Type 0
IsFitOutcome (outcome.Values vs) = AreFit (plains vs.items)
IsFitOutcome (outcome.NoSolution n) = Unit {0}
IsFitOutcome outcome.Overflow = Unit {0}
IsFitOutcome (outcome.Refused n r) = Unit {0}
