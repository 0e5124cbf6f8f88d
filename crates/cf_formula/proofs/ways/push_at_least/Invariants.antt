use Rattle.std.proofs.Common.{◌≡◌, ◌++◌, length, map}
use Rattle.cf_formula.specs.Atoms.{ge}
use Rattle.cf_formula.specs.FormulaView.{formula_trees}
use Rattle.cf_formula.proofs.ways.push_at_least.Given as goal

abbrev pub invariant-loop-row : goal.invariant-loop-row
invariant-loop-row l = formula_trees l.parts.items ++ map ge l.rest ≡ formula_trees l.initial.parts.items ++ map ge l.rows

abbrev pub decreases-loop-row : goal.decreases-loop-row
decreases-loop-row l = length l.rest
