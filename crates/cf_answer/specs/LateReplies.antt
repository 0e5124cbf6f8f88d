-- What a late program comes to, whose chooses are eliminated on the numbers of a line.
use Rattle.std.specs.Prelude.{ℕ, List}
use Rattle.cf_num.specs.Limit.{limit}
use Rattle.cf_tree.specs.Values.{Value}
use Rattle.cf_program.specs.Checked.{TypedTree}
use Rattle.cf_match.specs.Laws.{bodies}
use Rattle.cf_eval.specs.Spelling.{SpellsValues}
use Rattle.cf_late.specs.ChooseRun.{LateOutcome}
use Rattle.cf_late.specs.LateRun.{late_run}
use Rattle.cf_late.specs.ProgramLaw.{IsAllowedIn}
use Rattle.cf_answer.specs.Picked.{main_bases}

-- what main comes to at these values
abbrev pub main_comes : TypedTree → List Value → LateOutcome
main_comes typed vs = late_run (bodies typed.defs) typed.main vs

-- where main comes to an outcome at values that a line spells, the source allows it
abbrev pub AreRunsAllowed : TypedTree → Type 0
AreRunsAllowed typed =
    (line : List ℕ) (vs : List Value) → SpellsValues limit (main_bases typed) line vs → IsAllowedIn typed.defs typed.main vs (main_comes typed vs)
