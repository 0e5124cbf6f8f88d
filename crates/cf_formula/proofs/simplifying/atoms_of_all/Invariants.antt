use Rattle.std.proofs.Common.{◌≡◌, ◌+◌, length}
use Rattle.cf_formula.specs.FormulaView.{formula_trees}
use Rattle.cf_formula.specs.Simplifying.{atoms_of_all}
use Rattle.cf_formula.proofs.simplifying.atoms_of_all.Given as goal

abbrev pub invariant-loop-formula : goal.invariant-loop-formula
invariant-loop-formula l = l.atoms + atoms_of_all (formula_trees l.rest) ≡ atoms_of_all (formula_trees l.formulas)

abbrev pub decreases-loop-formula : goal.decreases-loop-formula
decreases-loop-formula l = length l.rest
