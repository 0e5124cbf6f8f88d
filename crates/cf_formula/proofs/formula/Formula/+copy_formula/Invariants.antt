use Rattle.std.proofs.Common.{◌≡◌, ◌≤◌, ◌+◌, ◌*◌, ◌++◌, ◌∷◌, [], max}
use Rattle.cf_formula.specs.Formulas.{both, either}
use Rattle.cf_formula.specs.FormulaView.{formula_tree, formula_trees, size}
use Rattle.cf_formula.specs.Members.{all_of, any_of}
use Rattle.cf_formula.proofs.formula.Formula.+copy_formula.Given as goal

abbrev pub decreases-try_copy : goal.decreases-try_copy
decreases-try_copy l = 2 * size (formula_tree l.self.now)

abbrev pub decreases-copy_and : goal.decreases-copy_and
decreases-copy_and l = 2 * max (size (formula_tree l.first.now)) (size (formula_tree l.second.now)) + 1

abbrev pub decreases-copy_or : goal.decreases-copy_or
decreases-copy_or l = 2 * max (size (formula_tree l.first.now)) (size (formula_tree l.second.now)) + 1

abbrev pub invariant-copy_and-loop-left : goal.invariant-copy_and-loop-left
invariant-copy_and-loop-left l = record {
  whole : all_of (formula_trees l.parts.items ++ (formula_tree l.left ∷ [])) ≡ both (formula_tree l.first) (formula_tree l.second);
  smaller : size (formula_tree l.left) ≤ size (formula_tree l.second);
}

abbrev pub decreases-copy_and-loop-left : goal.decreases-copy_and-loop-left
decreases-copy_and-loop-left l = size (formula_tree l.left)

abbrev pub invariant-copy_or-loop-left : goal.invariant-copy_or-loop-left
invariant-copy_or-loop-left l = record {
  whole : any_of (formula_trees l.parts.items ++ (formula_tree l.left ∷ [])) ≡ either (formula_tree l.first) (formula_tree l.second);
  smaller : size (formula_tree l.left) ≤ size (formula_tree l.second);
}

abbrev pub decreases-copy_or-loop-left : goal.decreases-copy_or-loop-left
decreases-copy_or-loop-left l = size (formula_tree l.left)
