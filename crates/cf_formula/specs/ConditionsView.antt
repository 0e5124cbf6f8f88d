-- The plain conditions that conditions of the program stand for.
use Rattle.std.specs.Prelude.{◌≡◌, ◌+◌, ◌<◌, Bool, false, List, Result, Ok, Err, reverse}
use Rattle.cf_linear.specs.Parts.{IsRowFault}
use Rattle.cf_linear.specs.declared.refusal.RowFault.{RowFault}
use Rattle.cf_formula.specs.declared.conditions.Conditions.{Conditions as DeclaredConditions}
use Rattle.cf_formula.specs.declared.formula.Formula.{Formula as DeclaredFormula}
use Rattle.cf_formula.specs.Formulas.{Formula}
use Rattle.cf_formula.specs.FormulaView.{formula_trees, size, size_of_all}
use Rattle.cf_formula.specs.States.{Conditions, add, add_all}

abbrev pub conditions_of : DeclaredConditions → Conditions
conditions_of c = record {
  equations = c.equations.items;
  inequalities = c.inequalities.items;
  pending = formula_trees c.pending.items;
  dead = c.dead;
}

-- the conditions, or Past exactly where b
abbrev pub ConditionsAnswer : Bool → Conditions → Result DeclaredConditions RowFault → Type 0
ConditionsAnswer b c (Ok x) = (conditions_of x ≡ c) × (b ≡ false)
ConditionsAnswer b c (Err e) = IsRowFault b e

-- the conditions with the formulas behind each other, or Past exactly where b
abbrev pub AddAnswer : Bool → List Formula → Conditions → Conditions → Result (Unit {0}) RowFault → Type 0
AddAnswer b fs before after (Ok u) = (after ≡ add_all fs before) × (b ≡ false)
AddAnswer b fs before after (Err e) = IsRowFault b e

-- the formula was added, or its parts went to those that are left, the next one last
pub record IsAdded (f : Formula) (before left : List DeclaredFormula) (c d : Conditions) : Type 0 where
  pub same : add_all (formula_trees (reverse left)) d ≡ add_all (formula_trees (reverse before)) (add f c)
  pub fewer : size_of_all (formula_trees (reverse left)) < size f + size_of_all (formula_trees (reverse before))
