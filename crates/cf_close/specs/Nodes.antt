-- The nodes of a refutation, and what is kept of the solutions of its problem.
use Rattle.std.specs.Prelude.{◌≡◌, ◌≢◌, ℕ, pos, ◌<◌, ◌+◌, Bool, true, false, List, [], ◌∷◌, ◌++◌, ◌⊎◌, length, get_or, slice_set, take, drop, ◌≤ℤ◌, All}
use Rattle.cf_linear.specs.Rows.{Row, Values, value, entry}
use Rattle.cf_linear.specs.Keep.{update}
use Rattle.cf_close.specs.declared.fact.Fact.{Fact}
use Rattle.cf_close.specs.declared.fact.FactKind.TheVariants.{Inequality}
use Rattle.cf_close.specs.Facts.{FactHolds}
use Rattle.cf_close.specs.Problems.{Conjunction, Problem, Marks, OrHolds, ConjunctionHolds, Solves}

-- ---- nodes that are made of nodes
-- the list without the element at a place
abbrev pub removed : {X : Type 0} → ℕ → List X → List X
removed i xs = take i xs ++ drop (i + 1) xs

abbrev pub with_fact : Fact → Conjunction → Conjunction
with_fact f c = record { facts = c.facts ++ f ∷ []; ors = c.ors }

abbrev pub with_fact_at : ℕ → Fact → Conjunction → Conjunction
with_fact_at i f c = record { facts = slice_set c.facts i f; ors = c.ors }

abbrev pub with_or_at : ℕ → List ℕ → Conjunction → Conjunction
with_or_at o branches c = record { facts = c.facts; ors = slice_set c.ors o branches }

abbrev pub without_or : ℕ → Conjunction → Conjunction
without_or i c = record { facts = c.facts; ors = removed i c.ors }

-- the branches of an or
abbrev pub branches : ℕ → Conjunction → List ℕ
branches o c = get_or c.ors o []

-- the inequality of a row
abbrev pub at_least_0 : Row → Fact
at_least_0 r = record { kind = Inequality; row = r }

-- a node of these facts and ors
pub record IsMade (facts : List Fact) (ors : List (List ℕ)) (c : Conjunction) : Type 0 where
  pub facts_are : c.facts ≡ facts
  pub ors_are : c.ors ≡ ors

-- ---- the search
-- a solution holds at an open node: at the one that is looked at, unless all are closed, or at one of the rest
abbrev pub SomeHolds : Values → Marks → List Conjunction → Type 0
SomeHolds v m [] = ⊥
SomeHolds v m (c ∷ cs) = ConjunctionHolds v m c ⊎ SomeHolds v m cs

abbrev pub IsOpen : Values → Marks → Bool → Conjunction → List Conjunction → Type 0
IsOpen v m true top rest = ⊥
IsOpen v m false top rest = ConjunctionHolds v m top ⊎ SomeHolds v m rest

-- an assignment that solves the problem and holds at an open node
pub record IsFound (p : Problem) (m : Marks) (closed : Bool) (top : Conjunction) (rest : List Conjunction) : Type 0 where
  pub values : Values
  pub solves : Solves values m p
  pub is_open : IsOpen values m closed top rest

-- where there is a solution, there is such a one, maybe with other values in columns that the problem does not name
pub record IsComplete (p : Problem) (closed : Bool) (top : Conjunction) (rest : List Conjunction) : Type 0 where
  pub kept : (v : Values) (m : Marks) → Solves v m p → IsFound p m closed top rest

-- ---- what the operations owe
-- a solution that holds at the one node holds at the other
pub record IsWeaker (p : Problem) (a b : Conjunction) : Type 0 where
  pub holds : (v : Values) (m : Marks) → Solves v m p → ConjunctionHolds v m a → ConjunctionHolds v m b

-- no solution holds at the node
pub record IsRefuted (p : Problem) (a : Conjunction) : Type 0 where
  pub none : (v : Values) (m : Marks) → Solves v m p → ConjunctionHolds v m a → ⊥

-- a solution that holds at the node holds at one of two
pub record IsSplit (p : Problem) (a b c : Conjunction) : Type 0 where
  pub either : (v : Values) (m : Marks) → Solves v m p → ConjunctionHolds v m a → ConjunctionHolds v m b ⊎ ConjunctionHolds v m c

-- the same of all values, whatever the problem
pub record IsCut (a b c : Conjunction) : Type 0 where
  pub either : (v : Values) (m : Marks) → v 0 ≡ pos 1 → ConjunctionHolds v m a → ConjunctionHolds v m b ⊎ ConjunctionHolds v m c

-- each solution holds at it
pub record IsRoot (p : Problem) (a : Conjunction) : Type 0 where
  pub holds : (v : Values) (m : Marks) → Solves v m p → ConjunctionHolds v m a

-- what holds at one of the rest holds at an open node then
pub record HasLeft (rest : List Conjunction) (closed : Bool) (top : Conjunction) (left : List Conjunction) : Type 0 where
  pub moves : (v : Values) (m : Marks) → SomeHolds v m rest → IsOpen v m closed top left

-- the place of the conjunction of a branch
pub record IsPlace (node : Conjunction) (o k i : ℕ) : Type 0 where
  pub or_in : o < length node.ors
  pub branch_in : k < length (branches o node)
  pub is : i ≡ get_or (branches o node) k 0

-- the conjunction of a branch
pub record IsBranch (p : Problem) (node : Conjunction) (o k : ℕ) (c : Conjunction) : Type 0 where
  pub place : ℕ
  pub place_is : IsPlace node o k place
  pub place_in : place < length p.conjunctions
  pub is : c ≡ get_or p.conjunctions place c

-- an or of the node without branches
pub record HasNoBranch (node : Conjunction) (o : ℕ) : Type 0 where
  pub or_in : o < length node.ors
  pub none : length (branches o node) ≡ 0

-- where the node holds, the row is at least 0, or the other node holds
pub record IsBelow (r : Row) (a b : Conjunction) : Type 0 where
  pub either : (v : Values) (m : Marks) → v 0 ≡ pos 1 → ConjunctionHolds v m a → (pos 0 ≤ℤ value v r) ⊎ ConjunctionHolds v m b

-- where the node holds with the or without a branch, the branch holds, or the other node does
pub record IsOther (branch node : Conjunction) (o k : ℕ) (b : Conjunction) : Type 0 where
  pub either : (v : Values) (m : Marks) → v 0 ≡ pos 1 → ConjunctionHolds v m node → OrHolds m (removed k (branches o node)) →
      ConjunctionHolds v m branch ⊎ ConjunctionHolds v m b

-- ---- a new column
-- the column is in none of the rows
abbrev pub Lacks : ℕ → Fact → Type 0
Lacks c f = entry f.row c ≡ pos 0

abbrev pub NodeLacks : ℕ → Conjunction → Type 0
NodeLacks c node = All (Lacks c) node.facts

-- the equation gives the column, which the row lacks, the value of the row
pub record IsDefined (c : ℕ) (r : Row) (f : Fact) : Type 0 where
  pub other : c ≢ 0
  pub gives : (v : Values) → FactHolds (update v c (value v r)) f
