-- The problem of some systems.
use Rattle.std.specs.Prelude.{◌≡◌, ℕ, List, [], ◌∷◌, ◌++◌, length, map}
use Rattle.std.specs.List.{range_with_len}
use Rattle.cf_linear.specs.Rows.{Row}
use Rattle.cf_linear.specs.declared.system.System.{System as DeclaredSystem}
use Rattle.cf_linear.specs.Systems.{System}
use Rattle.cf_linear.specs.Views.{system_of}
use Rattle.cf_close.specs.declared.fact.Fact.{Fact}
use Rattle.cf_close.specs.declared.fact.FactKind.{FactKind}
use Rattle.cf_close.specs.declared.fact.FactKind.TheVariants.{Equation, Inequality}
use Rattle.cf_close.specs.Problems.{Conjunction, Problem}

abbrev pub fact_as : FactKind → Row → Fact
fact_as kind r = record { kind = kind; row = r }

-- that a system is satisfied
abbrev pub conjunction_of : System → Conjunction
conjunction_of m = record { facts = map (fact_as Equation) m.equations ++ map (fact_as Inequality) m.inequalities; ors = [] }

abbrev pub conjunction_from : DeclaredSystem → Conjunction
conjunction_from s = conjunction_of (system_of s)

-- that one of the first n conjunctions holds
abbrev pub one_of : ℕ → Conjunction
one_of n = record { facts = []; ors = range_with_len 0 n ∷ [] }

-- the problem whether one of the systems is satisfied
pub record IsProblemOf (systems : List System) (p : Problem) : Type 0 where
  pub conjunctions_are : p.conjunctions ≡ map conjunction_of systems ++ one_of (length systems) ∷ []
  pub root_is : p.root ≡ length systems
