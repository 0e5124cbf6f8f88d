use Rattle.std.proofs.Common.{rules}
use Rattle.cf_formula.specs.ConditionsView.{conditions_of}
use Rattle.cf_formula.specs.FormulaView.{formula_tree}
use Rattle.cf_formula.proofs.ConditionsCode.{parts_start, parts_done}
use Rattle.cf_formula.proofs.conditions.Conditions.add.Goals as goal

pub loop-part-init : goal.loop-part-init
loop-part-init c =
    parts_start (formula_tree c.args.formula) c.new-left.result.items c.add_part.new.left.items (conditions_of c.args.self.now)
    (conditions_of c.add_part.new.self) c.new-left.ensures.items c.in_ok-add_part.ensures

pub returns : goal.returns
returns c = parts_done c.loop-part.left.items (conditions_of c.loop-part.self) _ (search rules) c.loop-part.invariant
