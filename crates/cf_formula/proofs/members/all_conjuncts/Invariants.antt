use Rattle.std.proofs.Common.{◌≡◌, ◌++◌, reverse}
use Rattle.std.specs.List.{flat_map}
use Rattle.cf_formula.specs.FormulaView.{formula_trees, size_of_all}
use Rattle.cf_formula.specs.Members.{conjuncts}
use Rattle.cf_formula.proofs.members.all_conjuncts.Given as goal

abbrev pub invariant-loop-part : goal.invariant-loop-part
invariant-loop-part l = formula_trees l.out.items ++ flat_map conjuncts (formula_trees (reverse l.left.items)) ≡ flat_map conjuncts
    (formula_trees l.fn.parts.items)

abbrev pub decreases-loop-part : goal.decreases-loop-part
decreases-loop-part l = size_of_all (formula_trees (reverse l.left.items))
