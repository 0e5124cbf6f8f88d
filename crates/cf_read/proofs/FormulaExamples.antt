-- Problems of formulas. Column 1 is x, column 2 is y.
use Rattle.std.proofs.Common.{◌≡◌, pos, negsuc, [], ◌∷◌, refl}
use Rattle.cf_linear.specs.Rows.{Row}
use Rattle.cf_close.specs.declared.fact.FactKind.TheVariants.{Equation, Inequality}
use Rattle.cf_formula.specs.Formulas.{Formula, always, never, at_least, equal, both, either}
use Rattle.cf_read.specs.Systems.{fact_as}
use Rattle.cf_read.specs.FormulaProblems.{problem_of_formula}

-- x - 1, x - 2, x - 3 and y
abbrev x1 : Row
x1 = (0, negsuc 0) ∷ (1, pos 1) ∷ []

abbrev x2 : Row
x2 = (0, negsuc 1) ∷ (1, pos 1) ∷ []

abbrev x3 : Row
x3 = (0, negsuc 2) ∷ (1, pos 1) ∷ []

abbrev y : Row
y = (2, pos 1) ∷ []

-- x >= 1, and x == 2 or else x >= 3 and y >= 0
or_of_two : problem_of_formula (both (at_least x1) (either (equal x2) (both (at_least x3) (at_least y)))) ≡ record {
  conjunctions = record { facts = fact_as Equation x2 ∷ []; ors = [] } ∷ record { facts = fact_as Inequality x3 ∷ fact_as Inequality y ∷ []; ors = [] } ∷
      record { facts = fact_as Inequality x1 ∷ []; ors = (0 ∷ 1 ∷ []) ∷ [] } ∷ [];
  root = 2;
}
or_of_two = refl

-- an or within a branch: x >= 1, or y >= 0 and x == 2 or x == 3
or_in_a_branch : problem_of_formula (either (at_least x1) (both (at_least y) (either (equal x2) (equal x3)))) ≡ record {
  conjunctions = record { facts = fact_as Inequality x1 ∷ []; ors = [] } ∷ record { facts = fact_as Equation x2 ∷ []; ors = [] } ∷
      record { facts = fact_as Equation x3 ∷ []; ors = [] } ∷ record { facts = fact_as Inequality y ∷ []; ors = (1 ∷ 2 ∷ []) ∷ [] } ∷
      record { facts = []; ors = (0 ∷ 3 ∷ []) ∷ [] } ∷ [];
  root = 4;
}
or_in_a_branch = refl

-- an or of three has three branches, also where it is nested
or_of_three : problem_of_formula (either (either (at_least x1) (at_least x2)) (at_least y)) ≡ record {
  conjunctions = record { facts = fact_as Inequality x1 ∷ []; ors = [] } ∷ record { facts = fact_as Inequality x2 ∷ []; ors = [] } ∷
      record { facts = fact_as Inequality y ∷ []; ors = [] } ∷ record { facts = []; ors = (0 ∷ 1 ∷ 2 ∷ []) ∷ [] } ∷ [];
  root = 3;
}
or_of_three = refl

-- what always holds says nothing, and what never holds is an or without branches
of_always : problem_of_formula always ≡ record { conjunctions = record { facts = []; ors = [] } ∷ []; root = 0 }
of_always = refl

of_never : problem_of_formula never ≡ record { conjunctions = record { facts = []; ors = [] ∷ [] } ∷ []; root = 0 }
of_never = refl
