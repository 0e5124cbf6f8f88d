use Rattle.std.proofs.Common.{◌≡◌, drop}
use Rattle.cf_formula.specs.FormulaView.{formula_tree, formula_trees}
use Rattle.cf_formula.specs.Members.{is_among}
use Rattle.cf_formula.proofs.lists.is_among.Given as goal

abbrev pub invariant-loop-other : goal.invariant-loop-other
invariant-loop-other l =
    is_among (formula_trees l.formulas) (formula_tree l.formula) ≡ is_among (formula_trees (drop l.other-index l.formulas)) (formula_tree l.formula)
