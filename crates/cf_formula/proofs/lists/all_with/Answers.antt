use Rattle.std.proofs.Common.{rules}
use Rattle.cf_formula.specs.FormulaView.{formula_tree}
use Rattle.cf_formula.proofs.FormulaLists.{all_step, all_done}
use Rattle.cf_formula.proofs.lists.all_with.Goals as goal

pub loop-formula-preserved : goal.loop-formula-preserved
loop-formula-preserved c =
    all_step c.loop-formula.left.items c.pop.new.self.items c.in-Some.formula (formula_tree c.loop-formula.all) _ _
    c.in-Some.ensures.items c.in_ok-all.ensures c.loop-formula.invariant

pub returns : goal.returns
returns c = all_done c.loop-formula.left.items (formula_tree c.loop-formula.all) _ (search rules) c.loop-formula.invariant
