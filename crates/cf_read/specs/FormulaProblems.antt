-- The problem of a formula: one conjunction says all that is to hold, and each branch of an or has one of its own.
use Rattle.std.specs.Prelude.{ℕ, List, [], ◌∷◌, ◌++◌, length}
use Rattle.cf_linear.specs.Rows.{Row}
use Rattle.cf_close.specs.declared.fact.FactKind.{FactKind}
use Rattle.cf_close.specs.declared.fact.FactKind.TheVariants.{Equation, Inequality}
use Rattle.cf_close.specs.Problems.{Conjunction, Problem}
use Rattle.cf_formula.specs.Formulas.{Formula, always, never, at_least, equal, both, either}
use Rattle.cf_read.specs.Systems.{fact_as}
use Rattle.cf_read.specs.declared.formulas.Saying.{Saying}

-- the conjunctions that are made, and what the next one says so far
pub record Reading : Type 0 where
  pub made : List Conjunction
  pub next : Conjunction

-- the conjunctions that are made, and the places of those that are branches of an or
pub record Branches : Type 0 where
  pub made : List Conjunction
  pub places : List ℕ

abbrev pub read_so : List Conjunction → Conjunction → Reading
read_so made next = record { made = made; next = next }

abbrev pub no_facts : Conjunction
no_facts = record { facts = []; ors = [] }

abbrev pub with_row : FactKind → Row → Conjunction → Conjunction
with_row kind row c = record { facts = c.facts ++ fact_as kind row ∷ []; ors = c.ors }

abbrev pub with_or : List ℕ → Conjunction → Conjunction
with_or places c = record { facts = c.facts; ors = c.ors ++ places ∷ [] }

-- the conjunction that was read is made too, and is one branch more
abbrev pub branched : List ℕ → Reading → Branches
branched places r = record { made = r.made ++ r.next ∷ []; places = places ++ length r.made ∷ [] }

-- a conjunction of its own, which says nothing yet
abbrev pub begun : List Conjunction → Reading
begun made = read_so made no_facts

-- the or of these branches is said too
abbrev pub with_branches : Conjunction → Branches → Reading
with_branches c b = read_so b.made (with_or b.places c)

abbrev mutual
  -- the formula is said too; an or without branches never holds
  pub with_formula : Formula → Reading → Reading
  with_formula always r = r
  with_formula never r = with_branches r.next (record { made = r.made; places = [] })
  with_formula (at_least row) r = read_so r.made (with_row Inequality row r.next)
  with_formula (equal row) r = read_so r.made (with_row Equation row r.next)
  with_formula (both f g) r = with_formula g (with_formula f r)
  with_formula (either f g) r = with_branches r.next (with_branch g (with_branch f (record { made = r.made; places = [] })))

  -- the formula is a branch too, and an or is one by one
  pub with_branch : Formula → Branches → Branches
  with_branch always b = branched b.places (begun b.made)
  with_branch never b = b
  with_branch (at_least row) b = branched b.places (read_so b.made (with_row Inequality row no_facts))
  with_branch (equal row) b = branched b.places (read_so b.made (with_row Equation row no_facts))
  with_branch (both f g) b = branched b.places (with_formula g (with_formula f (begun b.made)))
  with_branch (either f g) b = with_branch g (with_branch f b)

-- the problem whether what was read holds
abbrev pub asked : Reading → Problem
asked r = record { conjunctions = r.made ++ r.next ∷ []; root = length r.made }

abbrev pub problem_of_formula : Formula → Problem
problem_of_formula f = asked (with_formula f (begun []))

-- ---- in the program
abbrev pub said_by : Saying → Conjunction
said_by s = record { facts = s.facts.items; ors = s.ors.items }

abbrev pub reading : List Conjunction → Saying → Reading
reading made s = read_so made (said_by s)

abbrev pub branches : List Conjunction → List ℕ → Branches
branches made places = record { made = made; places = places }
