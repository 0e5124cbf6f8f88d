-- What a late program comes to, and what its source allows.
use Rattle.std.specs.Prelude.{ℕ, ◌≡◌, List, slice_get, Some}
use Rattle.cf_tree.specs.Allowed.{ProgramAllows}
use Rattle.cf_tree.specs.DefView.{DefTree}
use Rattle.cf_tree.specs.Values.{Value, Outcome, HaveBases}
use Rattle.cf_tree.specs.Params.{bases_of}
use Rattle.cf_program.specs.TypedProgram.{IsLateProgram}
use Rattle.cf_match.specs.Laws.{bodies}
use Rattle.cf_late.specs.ChooseRun.{LateOutcome, comes_to}
use Rattle.cf_late.specs.Fitting.{AreFit}
use Rattle.cf_late.specs.LateRun.{late_run}

-- one value of the type of each parameter of the main function, in order
abbrev pub HaveMainTypes : List DefTree → ℕ → List Value → Type 0
HaveMainTypes defs main vs = (d : DefTree) × (slice_get defs main ≡ Some d) × HaveBases (bases_of d.params) vs

-- where the program comes to an outcome, its source allows it
abbrev pub IsAllowedIn : List DefTree → ℕ → List Value → LateOutcome → Type 0
IsAllowedIn defs main env r = (o : Outcome) → r ≡ comes_to o → ProgramAllows (bodies defs) main env o

-- a late program on values of main's types of which no number is past the limit
abbrev pub LateRunsAreAllowed : Type 0
LateRunsAreAllowed =
    (defs : List DefTree) (main : ℕ) → IsLateProgram defs main → (env : List Value) → HaveMainTypes defs main env → AreFit env →
    IsAllowedIn defs main env (late_run (bodies defs) main env)
