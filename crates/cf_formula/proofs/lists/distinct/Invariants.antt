use Rattle.std.proofs.Common.{◌≡◌, [], length, reverse}
use Rattle.cf_formula.specs.FormulaView.{formula_trees}
use Rattle.cf_formula.specs.Members.{distinct_formulas}
use Rattle.cf_formula.proofs.FormulaLists.{distinct_with}
use Rattle.cf_formula.proofs.lists.distinct.Given as goal

abbrev pub invariant-loop-formula : goal.invariant-loop-formula
invariant-loop-formula l = distinct_with (formula_trees l.kept.items) (formula_trees (reverse l.left.items)) ≡ distinct_formulas []
    (formula_trees l.fn.formulas.items)

abbrev pub decreases-loop-formula : goal.decreases-loop-formula
decreases-loop-formula l = length l.left.items
