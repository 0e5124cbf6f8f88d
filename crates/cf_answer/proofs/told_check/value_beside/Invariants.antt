use Rattle.std.proofs.Common.{◌≡◌, length}
use Rattle.cf_eval.specs.Seen.{plains}
use Rattle.cf_warn.specs.Questions.{base_at}
use Rattle.cf_answer.specs.ToldChecks.{at_rest, beside}
use Rattle.cf_answer.proofs.told_check.value_beside.Given as goal

abbrev pub decreases-loop-first : goal.decreases-loop-first
decreases-loop-first l = length l.rest

abbrev pub invariant-loop-first : goal.invariant-loop-first
invariant-loop-first l =
    beside l.rest (plains l.values) l.level (at_rest (base_at l.scope l.level)) ≡ beside l.params (plains l.sample) l.level (at_rest (base_at l.scope l.level))
