use Rattle.std.proofs.Common.{rules}
use Rattle.cf_formula.specs.FormulaView.{formula_tree}
use Rattle.cf_formula.proofs.FormulaLists.{any_step, any_done}
use Rattle.cf_formula.proofs.lists.any_with.Goals as goal

pub loop-formula-preserved : goal.loop-formula-preserved
loop-formula-preserved c =
    any_step c.loop-formula.left.items c.pop.new.self.items c.in-Some.formula (formula_tree c.loop-formula.any) _ _
    c.in-Some.ensures.items c.in_ok-any.ensures c.loop-formula.invariant

pub returns : goal.returns
returns c = any_done c.loop-formula.left.items (formula_tree c.loop-formula.any) _ (search rules) c.loop-formula.invariant
