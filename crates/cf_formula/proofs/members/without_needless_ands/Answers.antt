use Rattle.std.proofs.Common.{rules}
use Rattle.cf_formula.specs.FormulaView.{formula_trees}
use Rattle.cf_formula.specs.Members.{is_needless_and}
use Rattle.cf_formula.proofs.MemberCode.{kept_are}
use Rattle.cf_formula.proofs.members.without_needless_ands.Goals as goal

pub returns : goal.returns
returns c =
    kept_are is_needless_and c.args.members.items c.deref.result.now (formula_trees c.in_ok-needed.needed.items) _ _ (search rules)
    c.in_ok-needless.ensures (search rules) c.in_ok-needed.ensures
