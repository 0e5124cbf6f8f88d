-- What a run answers, by the meaning of the code and the greatest number met on the way to it.
use Rattle.std.specs.Prelude.{◌≡◌, ◌-◌, ◌^◌, ◌≤◌, ◌<◌, List}
use Rattle.cf_tree.specs.CodeTree.{CodeTree}
use Rattle.cf_tree.specs.Meaning.{means, peak}
use Rattle.cf_tree.specs.Values.{Value, values, no_solution}
use Rattle.cf_eval.specs.declared.value.Outcome.{Outcome as RunOutcome}
use Rattle.cf_eval.specs.declared.value.Outcome.TheVariants.{Values, NoSolution, Overflow}
use Rattle.cf_eval.specs.Seen.{plains}

-- the outcome is the code's meaning, or the greatest number met passes the limit
abbrev pub Answers : CodeTree → List Value → RunOutcome → Type 0
Answers code env (Values vs) = (means code env ≡ values (plains vs.items)) × (peak code env ≤ 2 ^ 127 - 1)
Answers code env (NoSolution n) = (means code env ≡ no_solution n) × (peak code env ≤ 2 ^ 127 - 1)
Answers code env Overflow = 2 ^ 127 - 1 < peak code env
