-- What holds of whole eliminations.
use Rattle.cf_linear.specs.Keep.{Formed, Differ}
use Rattle.cf_linear.specs.Systems.{System}
use Rattle.cf_linear.specs.Stages.{Trace, first_state, run, limits}

-- the run of a system is a trace from its first state to its end
abbrev pub RunsEnd : Type 0
RunsEnd = (m : System) → Formed m → Differ m.unknown → Trace limits (first_state m) (run limits m).taken (run limits m).end
