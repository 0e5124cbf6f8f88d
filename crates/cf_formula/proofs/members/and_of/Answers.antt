use Rattle.std.proofs.Common.{rules, ◌∙◌, ap}
use Rattle.cf_formula.specs.FormulaView.{formula_trees}
use Rattle.cf_formula.specs.Members.{all_of}
use Rattle.cf_formula.proofs.MemberCode.{needed_or}
use Rattle.cf_formula.proofs.members.and_of.Goals as goal

pub returns : goal.returns
returns c = c.in_ok-all.ensures ∙ ap all_of c.in_ok-needed.ensures ∙ needed_or (formula_trees c.args.members.items) (search rules)
