-- What the lowered form of a program keeps.
use Rattle.std.specs.Prelude.{ℕ, ◌≡◌, ◌↔◌, List, map, slice_get, Some, All}
use Rattle.cf_tree.specs.Allowed.{ProgramAllows}
use Rattle.cf_tree.specs.DefView.{DefTree}
use Rattle.cf_tree.specs.ExprTree.{ExprTree}
use Rattle.cf_tree.specs.Values.{Value, Outcome, HaveBases}
use Rattle.cf_program.specs.Lowered.{lowered_def}
use Rattle.cf_tree.specs.Params.{bases_of}
use Rattle.cf_program.specs.TypedProgram.{IsTypedProgram}
use Rattle.cf_program.specs.NoMatch.{HasNoMatch}

abbrev pub bodies : List DefTree → List ExprTree
bodies defs = map (λ d. d.body) defs

-- each function allows the same outcomes as the one at its place in the second list, in every environment of its parameters
abbrev pub AllowTheSame : List DefTree → List DefTree → Type 0
AllowTheSame defs new =
    (f : ℕ) (d : DefTree) → slice_get defs f ≡ Some d → (env : List Value) → HaveBases (bases_of d.params) env → (o : Outcome) →
    ProgramAllows (bodies defs) f env o ↔ ProgramAllows (bodies new) f env o

abbrev pub LoweringKeepsOutcomes : Type 0
LoweringKeepsOutcomes = (defs : List DefTree) (main : ℕ) → IsTypedProgram defs main → AllowTheSame defs (map lowered_def defs)

-- the lowered functions are a typed program with the same main function
abbrev pub LoweringKeepsTypes : Type 0
LoweringKeepsTypes = (defs : List DefTree) (main : ℕ) → IsTypedProgram defs main → IsTypedProgram (map lowered_def defs) main

-- no match stands in them
abbrev pub LoweringLeavesNoMatch : Type 0
LoweringLeavesNoMatch = (defs : List DefTree) → All (λ d. HasNoMatch d.body) (map lowered_def defs)
