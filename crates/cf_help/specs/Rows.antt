-- Tables of helps: rows in order, of which the first that fits is told.
use Rattle.std.specs.Prelude.{ℕ, Bool, List, [], ◌∷◌, Option, Some, None, if◌then◌else◌}

infix 5 ◌gives◌
pub data Row : Type 0 where
  ◌gives◌ : Bool → List ℕ → Row

abbrev pub first_fitting : List Row → Option (List ℕ)
first_fitting [] = None
first_fitting ((fits gives help) ∷ rows) = if fits then Some help else first_fitting rows

-- the first of two, where there is one
abbrev pub or_else : {A : Type 0} → Option A → Option A → Option A
or_else (Some x) other = Some x
or_else None other = other
