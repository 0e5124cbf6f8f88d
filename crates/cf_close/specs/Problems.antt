-- What solves a problem.
use Rattle.std.specs.Prelude.{◌≡◌, ℕ, pos, ◌<◌, Bool, true, List, [], ◌∷◌, ◌⊎◌, length, get_or, All}
use Rattle.cf_linear.specs.Rows.{Values}
use Rattle.cf_close.specs.declared.fact.Fact.{Fact}
use Rattle.cf_close.specs.Facts.{FactHolds}

-- facts and ors that are all to hold; an or is a list of places of conjunctions, of which one is to hold
pub record Conjunction : Type 0 where
  pub facts : List Fact
  pub ors : List (List ℕ)

-- conjunctions by place, and the place of the one that is asked after
pub record Problem : Type 0 where
  pub conjunctions : List Conjunction
  pub root : ℕ

-- which conjunctions hold, by place
abbrev pub Marks : Type 0
Marks = ℕ → Bool

-- one of the places is marked
abbrev pub OrHolds : Marks → List ℕ → Type 0
OrHolds m [] = ⊥
OrHolds m (i ∷ branches) = (m i ≡ true) ⊎ OrHolds m branches

pub record ConjunctionHolds (v : Values) (m : Marks) (c : Conjunction) : Type 0 where
  pub facts_hold : All (FactHolds v) c.facts
  pub ors_hold : All (OrHolds m) c.ors

-- what is marked holds
abbrev pub MarkedHold : Values → Marks → List Conjunction → Type 0
MarkedHold v m cs = (i : ℕ) (d : Conjunction) → i < length cs → m i ≡ true → ConjunctionHolds v m (get_or cs i d)

-- column 0 is 1, the root is marked, and what is marked holds
pub record Solves (v : Values) (m : Marks) (p : Problem) : Type 0 where
  pub one : v 0 ≡ pos 1
  pub root : m p.root ≡ true
  pub marked : MarkedHold v m p.conjunctions

-- no integers solve the problem
pub record HasNone (p : Problem) : Type 0 where
  pub none : (v : Values) (m : Marks) → Solves v m p → ⊥
