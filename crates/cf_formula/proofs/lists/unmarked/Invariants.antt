use Rattle.std.proofs.Common.{◌≡◌, ◌++◌, drop, reverse}
use Rattle.cf_formula.specs.FormulaView.{formula_trees}
use Rattle.cf_formula.specs.Members.{unmarked}
use Rattle.cf_formula.proofs.lists.unmarked.Given as goal

abbrev pub invariant-loop-mark : goal.invariant-loop-mark
invariant-loop-mark l =
    formula_trees l.out.items ++ unmarked (drop l.mark-index l.marks) (formula_trees (reverse l.left.items)) ≡
    unmarked l.marks (formula_trees l.fn.formulas.items)
