use Rattle.std.proofs.Common.{◌≡◌, drop}
use Rattle.cf_formula.specs.FormulaView.{formula_trees}
use Rattle.cf_formula.specs.Simplifying.{same_formulas}
use Rattle.cf_formula.proofs.simplifying.same_formulas.Given as goal

abbrev pub invariant-loop-i : goal.invariant-loop-i
invariant-loop-i l =
    same_formulas (formula_trees l.first) (formula_trees l.second) ≡ same_formulas (formula_trees (drop l.i l.first)) (formula_trees (drop l.i l.second))
