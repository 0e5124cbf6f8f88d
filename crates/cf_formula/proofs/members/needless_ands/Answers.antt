use Rattle.std.proofs.Common.{rules, arith}
use Rattle.cf_formula.specs.FormulaView.{formula_trees}
use Rattle.cf_formula.specs.Members.{is_needless_and}
use Rattle.cf_formula.proofs.MemberCode.{mark_step}
use Rattle.cf_formula.proofs.members.needless_ands.Goals as goal

pub loop-formula-preserved : goal.loop-formula-preserved
loop-formula-preserved c =
    mark_step (is_needless_and (formula_trees c.args.members.now)) c.args.members.now c.loop-formula.marks.items c.push.new.self.items
    c.loop-formula.formula-index c.formula-item.result c.is_needless_and.result (omega arith) c.formula-item.is (search rules) (search rules)
    c.loop-formula.invariant
