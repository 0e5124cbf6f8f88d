use Rattle.std.proofs.Common.{◌≡◌, reverse}
use Rattle.cf_formula.specs.ConditionsView.{conditions_of}
use Rattle.cf_formula.specs.FormulaView.{formula_tree, formula_trees, size_of_all}
use Rattle.cf_formula.specs.States.{add, add_all}
use Rattle.cf_formula.proofs.conditions.Conditions.add.Given as goal

abbrev pub invariant-loop-part : goal.invariant-loop-part
invariant-loop-part l = add_all (formula_trees (reverse l.left.items)) (conditions_of l.self) ≡ add (formula_tree l.fn.formula) (conditions_of l.fn.self)

abbrev pub decreases-loop-part : goal.decreases-loop-part
decreases-loop-part l = size_of_all (formula_trees (reverse l.left.items))
