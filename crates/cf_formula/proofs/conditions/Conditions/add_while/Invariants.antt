use Rattle.std.proofs.Common.{◌≡◌, length, reverse}
use Rattle.cf_formula.specs.ConditionsView.{conditions_of}
use Rattle.cf_formula.specs.FormulaView.{formula_trees}
use Rattle.cf_formula.specs.Simplifying.{add_while}
use Rattle.cf_formula.proofs.conditions.Conditions.add_while.Given as goal

abbrev pub invariant-loop-formula : goal.invariant-loop-formula
invariant-loop-formula l =
    add_while (formula_trees (reverse l.left.items)) (conditions_of l.self) ≡ add_while (formula_trees l.fn.formulas.items) (conditions_of l.initial.self)

abbrev pub decreases-loop-formula : goal.decreases-loop-formula
decreases-loop-formula l = length l.left.items
