use Rattle.std.proofs.Common.{arith}
use Rattle.cf_formula.specs.FormulaView.{formula_trees}
use Rattle.cf_formula.specs.Members.{unmarked}
use Rattle.cf_formula.proofs.FormulaLists.{unmarked_start, unmarked_step, unmarked_done}
use Rattle.cf_formula.proofs.lists.unmarked.Goals as goal

pub loop-mark-init : goal.loop-mark-init
loop-mark-init c =
    unmarked_start c.args.marks.now c.args.formulas.items c.reverse.new.self.items c.new-out.result.items c.reverse.ensures.items c.new-out.ensures.items

pub loop-mark-preserved : goal.loop-mark-preserved
loop-mark-preserved c =
    unmarked_step c.args.marks.now c.loop-mark.mark-index _ c.loop-mark.left.items c.move_if.new.left.items c.loop-mark.out.items c.move_if.new.out.items
    (unmarked c.args.marks.now (formula_trees c.args.formulas.items)) (omega arith) c.in_ok-move_if.ensures.rest c.in_ok-move_if.ensures.moved
    c.loop-mark.invariant

pub returns : goal.returns
returns c =
    unmarked_done c.args.marks.now c.loop-mark.mark-index c.loop-mark.left.items c.loop-mark.out.items
    (unmarked c.args.marks.now (formula_trees c.args.formulas.items)) (omega arith) c.loop-mark.invariant
