use Rattle.std.proofs.Common.{◌≡◌, ◌++◌, ◌∷◌, [], length}
use Rattle.cf_eval.specs.Choice.{runs_joined}
use Rattle.cf_eval.proofs.joining.join_runs.Given as goal

abbrev pub invariant-loop-before : goal.invariant-loop-before
invariant-loop-before l = runs_joined l.how (l.runs.items ++ l.last ∷ []) ≡ runs_joined l.how l.fn.runs.items

abbrev pub decreases-loop-before : goal.decreases-loop-before
decreases-loop-before l = length l.runs.items
