use Rattle.std.proofs.Common.{◌≡◌, drop}
use Rattle.std.specs.List.{list_any}
use Rattle.cf_formula.specs.FormulaView.{formula_trees}
use Rattle.cf_formula.specs.Members.{opposes}
use Rattle.cf_formula.proofs.opposites.some_opposes.Given as goal

abbrev pub invariant-loop-formula : goal.invariant-loop-formula
invariant-loop-formula l = list_any (opposes l.row) (formula_trees l.members) ≡ list_any (opposes l.row) (formula_trees (drop l.formula-index l.members))
