-- What the formed program keeps.
use Rattle.std.specs.Prelude.{ℕ, ◌≡◌, ◌↔◌, Some, List, map, slice_get}
use Rattle.cf_tree.specs.Allowed.{ProgramAllows}
use Rattle.cf_tree.specs.DefView.{DefTree}
use Rattle.cf_tree.specs.ExprTree.{ExprTree}
use Rattle.cf_tree.specs.Params.{bases_of}
use Rattle.cf_tree.specs.Values.{Value, Outcome, HaveBases}
use Rattle.cf_program.specs.declared.linearity.Linearity.{Linearity}
use Rattle.cf_form.specs.Expansion.{call_expanded}
use Rattle.cf_form.specs.Formed.{formed, formed_defs}
use Rattle.cf_form.specs.Kept.{IsSource, IsFormedBy}
use Rattle.cf_form.specs.Told.{HoldConditions, all_told}
use Rattle.cf_form.specs.Widened.{widened, IsOfLanguageTwo}

abbrev pub bodies : List DefTree → List ExprTree
bodies defs = map (λ d. d.body) defs

-- each function allows the same outcomes as the one at its place in the second list, in every environment of its parameters
abbrev pub AllowTheSame : List DefTree → List DefTree → Type 0
AllowTheSame defs new =
    (f : ℕ) (d : DefTree) → slice_get defs f ≡ Some d → (env : List Value) → HaveBases (bases_of d.params) env → (o : Outcome) →
    ProgramAllows (bodies defs) f env o ↔ ProgramAllows (bodies new) f env o

abbrev pub FormingAllowsTheSame : Type 0
FormingAllowsTheSame = (how : Linearity) (defs : List DefTree) (main : ℕ) → IsSource how defs main → AllowTheSame defs (formed_defs defs)

-- the formed functions are typed, with relations that are linear by the same rule, and numbers are the same only of branches
abbrev pub FormingKeepsTypes : Type 0
FormingKeepsTypes = (how : Linearity) (defs : List DefTree) (main : ℕ) → IsSource how defs main → IsFormedBy how (formed_defs defs) main

-- a body without new forms is formed to itself, behind any functions and variables
abbrev pub FormsToItself : Type 0
FormsToItself = (before : List ExprTree) (s : ℕ) (e : ExprTree) → IsOfLanguageTwo e → formed (call_expanded before) s (widened e) ≡ e

-- in each branch of each choose that is told of, the condition holds where the relation does
abbrev pub ConditionsAreHeld : Type 0
ConditionsAreHeld = (defs : List DefTree) → HoldConditions (all_told defs)
