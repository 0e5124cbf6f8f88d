use Rattle.std.proofs.Common.{◌≡◌, ◌++◌, length}
use Rattle.cf_eval.specs.Seen.{plains}
use Rattle.cf_answer.specs.ToldChecks.{shown_values}
use Rattle.cf_answer.proofs.told_check.shown_values.Given as goal

abbrev pub decreases-loop-base : goal.decreases-loop-base
decreases-loop-base l = length l.rest

abbrev pub invariant-loop-base : goal.invariant-loop-base
invariant-loop-base l =
    plains l.values.items ++ shown_values l.rest (plains l.behind) ≡ shown_values l.shown (plains l.outputs)
