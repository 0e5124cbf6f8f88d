use Rattle.std.proofs.Common.{◌≡◌, take}
use Rattle.cf_formula.specs.FormulaView.{formula_trees}
use Rattle.cf_formula.proofs.state.copy_formulas.Given as goal

abbrev pub invariant-loop-formula : goal.invariant-loop-formula
invariant-loop-formula l = formula_trees l.all.items ≡ formula_trees (take l.formula-index l.formulas)
