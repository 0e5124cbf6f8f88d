use Rattle.std.proofs.Common.{◌≡◌, ◌++◌, ◌∷◌, [], length}
use Rattle.cf_formula.specs.FormulaView.{formula_tree, formula_trees}
use Rattle.cf_formula.specs.Members.{all_of}
use Rattle.cf_formula.proofs.lists.all_with.Given as goal

abbrev pub invariant-loop-formula : goal.invariant-loop-formula
invariant-loop-formula l = all_of (formula_trees l.left.items ++ (formula_tree l.all ∷ [])) ≡ all_of
    (formula_trees l.fn.formulas.items ++ (formula_tree l.fn.last ∷ []))

abbrev pub decreases-loop-formula : goal.decreases-loop-formula
decreases-loop-formula l = length l.left.items
