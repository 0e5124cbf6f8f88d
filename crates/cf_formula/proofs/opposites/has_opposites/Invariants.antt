use Rattle.std.proofs.Common.{◌≡◌, drop}
use Rattle.std.specs.List.{list_any}
use Rattle.cf_formula.specs.FormulaView.{formula_trees}
use Rattle.cf_formula.specs.Members.{has_opposite}
use Rattle.cf_formula.proofs.opposites.has_opposites.Given as goal

abbrev pub invariant-loop-formula : goal.invariant-loop-formula
invariant-loop-formula l =
    list_any (has_opposite (formula_trees l.members)) (formula_trees l.members) ≡
    list_any (has_opposite (formula_trees l.members)) (formula_trees (drop l.formula-index l.members))
