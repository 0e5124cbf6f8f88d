use Rattle.std.proofs.Common.{[], rules}
use Rattle.cf_formula.specs.FormulaView.{formula_trees}
use Rattle.cf_formula.specs.Members.{distinct_formulas}
use Rattle.cf_formula.proofs.FormulaLists.{distinct_start, distinct_step, distinct_done}
use Rattle.cf_formula.proofs.lists.distinct.Goals as goal

pub loop-formula-init : goal.loop-formula-init
loop-formula-init c =
    distinct_start c.args.formulas.items c.reverse.new.self.items c.new-kept.result.items c.reverse.ensures.items c.new-kept.ensures.items

pub loop-formula-preserved : goal.loop-formula-preserved
loop-formula-preserved c =
    distinct_step c.loop-formula.left.items c.pop.new.self.items c.loop-formula.kept.items c.push_if.new.out.items
    (distinct_formulas [] (formula_trees c.args.formulas.items)) c.in-Some.formula _ c.in-Some.ensures.items c.in_ok-push_if.ensures (cc)
    c.loop-formula.invariant

pub returns : goal.returns
returns c =
    distinct_done c.loop-formula.left.items c.loop-formula.kept.items (distinct_formulas [] (formula_trees c.args.formulas.items)) (search rules)
    c.loop-formula.invariant
