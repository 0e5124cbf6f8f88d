use Rattle.std.proofs.Common.{ap}
use Rattle.cf_formula.specs.ConditionsView.{conditions_of}
use Rattle.cf_formula.specs.FormulaView.{formula_trees}
use Rattle.cf_formula.specs.SubstitutionView.{pairs_of}
use Rattle.cf_formula.specs.Turns.{subst_rows, rows_pass}
use Rattle.cf_formula.proofs.ConditionsCode.{all_lists_put}
use Rattle.cf_formula.proofs.conditions.Conditions.put.Goals as goal

pub returns : goal.returns
returns c =
    all_lists_put (subst_rows (pairs_of c.args.by.now.replacements.items)) (rows_pass (pairs_of c.args.by.now.replacements.items))
    (conditions_of c.args.self.now) (conditions_of c.nothing_but-new.result) (conditions_of c.add_equations.new.to)
    (conditions_of c.add_inequalities.new.to) (conditions_of c.add_pending.new.to) c.deref.result.now c.deref-2.result.now
    (formula_trees c.deref-3.result.now) c.nothing_but-new.ensures c.deref.ensures.value c.deref-2.ensures.value
    (ap formula_trees c.deref-3.ensures.value) c.in_ok-add_equations.ensures c.in_ok-add_inequalities.ensures c.in_ok-add_pending.ensures
