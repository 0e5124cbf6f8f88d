-- What calls over rows answer that may pass the limit of numbers.
use Rattle.std.specs.Prelude.{◌≡◌, Bool, true, false, Result, Ok, Err}
use Rattle.cf_linear.specs.Parts.{IsRowFault}
use Rattle.cf_linear.specs.Rows.{Row}
use Rattle.cf_linear.specs.declared.refusal.RowFault.{RowFault}
use Rattle.cf_formula.specs.Formulas.{Formula}
use Rattle.cf_formula.specs.FormulaView.{formula_tree}
use Rattle.cf_formula.specs.declared.formula.Formula.{Formula as DeclaredFormula}

-- the row, or Past exactly where b
abbrev pub SubstAnswer : Bool → Row → Result Row RowFault → Type 0
SubstAnswer b r (Ok x) = (x ≡ r) × (b ≡ false)
SubstAnswer b r (Err e) = IsRowFault b e

-- the formula, or Past exactly where b
abbrev pub FormulaAnswer : Bool → Formula → Result DeclaredFormula RowFault → Type 0
FormulaAnswer b f (Ok x) = (formula_tree x ≡ f) × (b ≡ false)
FormulaAnswer b f (Err e) = IsRowFault b e
