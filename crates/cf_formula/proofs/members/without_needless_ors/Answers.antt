use Rattle.std.proofs.Common.{rules}
use Rattle.cf_formula.specs.FormulaView.{formula_trees}
use Rattle.cf_formula.specs.Members.{is_needless_or}
use Rattle.cf_formula.proofs.MemberCode.{kept_are}
use Rattle.cf_formula.proofs.members.without_needless_ors.Goals as goal

pub returns : goal.returns
returns c =
    kept_are is_needless_or c.args.members.items c.deref.result.now (formula_trees c.in_ok-needed.needed.items) _ _ (search rules)
    c.in_ok-needless.ensures (search rules) c.in_ok-needed.ensures
