use Rattle.std.proofs.Common.{◌≡◌, map, take}
use Rattle.cf_formula.specs.FormulaView.{formula_trees}
use Rattle.cf_formula.specs.Members.{is_needless_and}
use Rattle.cf_formula.proofs.members.needless_ands.Given as goal

abbrev pub invariant-loop-formula : goal.invariant-loop-formula
invariant-loop-formula l = l.marks.items ≡ map (is_needless_and (formula_trees l.members)) (formula_trees (take l.formula-index l.members))
