-- What facts say where the columns have values, and what follows from them.
use Rattle.std.specs.Prelude.{◌≡◌, ℤ, pos, ◌≤ℤ◌, Bool, true, false, List, All}
use Rattle.cf_linear.specs.Rows.{Values, value}
use Rattle.cf_close.specs.declared.fact.Fact.{Fact}
use Rattle.cf_close.specs.declared.fact.FactKind.{FactKind}
use Rattle.cf_close.specs.declared.fact.FactKind.TheVariants.{Equation, Inequality}
use Rattle.cf_close.specs.declared.fact.Tightened.{Tightened}
use Rattle.cf_close.specs.declared.fact.Tightened.TheVariants.{Closed, Tighter}

-- a value that is 0, or at least 0
abbrev pub Holds : FactKind → ℤ → Type 0
Holds Equation z = z ≡ pos 0
Holds Inequality z = pos 0 ≤ℤ z

abbrev pub FactHolds : Values → Fact → Type 0
FactHolds v f = Holds f.kind (value v f.row)

-- ---- what the calls on facts owe
abbrev pub is_equation : FactKind → Bool
is_equation Equation = true
is_equation Inequality = false

abbrev pub both : FactKind → FactKind → FactKind
both Equation kind = kind
both Inequality kind = Inequality

-- a factor that a fact of this kind can have
abbrev pub MayTake : ℤ → FactKind → Type 0
MayTake k Equation = Unit {0}
MayTake k Inequality = pos 0 ≤ℤ k

-- where all of these hold, so does the fact
pub record Follows (facts : List Fact) (f : Fact) : Type 0 where
  pub holds : (v : Values) → All (FactHolds v) facts → FactHolds v f

-- no values satisfy all of these facts, those of a node and those of a branch
pub record NeverHold (node branch : List Fact) : Type 0 where
  pub never : (v : Values) → v 0 ≡ pos 1 → All (FactHolds v) node → All (FactHolds v) branch → ⊥

-- what is known of a fact that holds, once it was divided
abbrev pub IsKnown : Values → Tightened → Type 0
IsKnown v Closed = ⊥
IsKnown v (Tighter f) = FactHolds v f

-- the same of one of the facts
pub record Settles (facts : List Fact) (t : Tightened) : Type 0 where
  pub known : (v : Values) → v 0 ≡ pos 1 → All (FactHolds v) facts → IsKnown v t
