use Rattle.std.proofs.Common.{rules}
use Rattle.cf_formula.specs.ConditionsView.{conditions_of}
use Rattle.cf_formula.proofs.SimplifyCode.{while_start, while_next}
use Rattle.cf_formula.proofs.conditions.Conditions.add_while.Goals as goal

pub loop-formula-init : goal.loop-formula-init
loop-formula-init c = while_start c.args.formulas.items c.reverse.new.self.items (conditions_of c.args.self.now) c.reverse.ensures.items

pub loop-formula-preserved : goal.loop-formula-preserved
loop-formula-preserved c =
    while_next c.loop-formula.left.items c.pop.new.self.items c.in-Some.formula (conditions_of c.loop-formula.self) (conditions_of c.add.new.self) _
    c.in-Some.ensures.items c.in_ok-add.ensures (search rules) c.loop-formula.invariant
