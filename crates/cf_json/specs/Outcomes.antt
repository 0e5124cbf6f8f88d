-- What a run of a target came to, as the outcome of a program.
use Rattle.cf_tree.specs.Values.{values, no_solution}
use Rattle.cf_eval.specs.Seen.{plains}
use Rattle.cf_eval.specs.declared.value.Outcome.{Outcome}
use Rattle.cf_eval.specs.declared.value.Outcome.TheVariants as outcome
use Rattle.cf_late.specs.ChooseRun.{LateOutcome, comes_to, overflow}

abbrev pub run_outcome : Outcome → LateOutcome
run_outcome (outcome.Values vs) = comes_to (values (plains vs.items))
run_outcome (outcome.NoSolution n) = comes_to (no_solution n)
run_outcome outcome.Overflow = overflow
