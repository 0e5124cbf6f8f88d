use Rattle.std.proofs.Common.{rules, ◌∙◌, ap}
use Rattle.cf_formula.specs.FormulaView.{formula_trees}
use Rattle.cf_formula.specs.Members.{any_of}
use Rattle.cf_formula.proofs.MemberCode.{needed_and}
use Rattle.cf_formula.proofs.members.or_of.Goals as goal

pub returns : goal.returns
returns c = c.in_ok-any.ensures ∙ ap any_of c.in_ok-needed.ensures ∙ needed_and (formula_trees c.args.members.items) (search rules)
