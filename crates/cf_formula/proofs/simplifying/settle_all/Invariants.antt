use Rattle.std.proofs.Common.{◌≡◌, map, take}
use Rattle.cf_formula.specs.Facts.{settled}
use Rattle.cf_formula.specs.FormulaView.{formula_trees}
use Rattle.cf_formula.proofs.simplifying.settle_all.Given as goal

abbrev pub invariant-loop-formula : goal.invariant-loop-formula
invariant-loop-formula l = formula_trees l.out.items ≡ map (settled l.known.rows.items) (formula_trees (take l.formula-index l.formulas))
